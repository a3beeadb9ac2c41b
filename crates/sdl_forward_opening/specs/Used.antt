-- The ends of all workers, once they were used.
use Rattle.std.specs.Prelude.{List, [], ◌∷◌, ⊤}
use Rattle.sdl_forward_ends.specs.Ends.{WorkerEnds, IsSameEnds}

-- each worker still has its ends, whatever it put and took since
abbrev pub AreUsed : List WorkerEnds → List WorkerEnds → Type 0
AreUsed [] [] = ⊤
AreUsed (e ∷ all) (f ∷ now) = IsSameEnds e f × AreUsed all now
AreUsed _ _ = ⊥
