use Rattle.std.proofs.Common.{◌≡◌, ℕ, ◌<◌, get_or}
use Rattle.sdl_forward_ends.proofs.marks.Marks.pop.Given as goal

abbrev pub invariant-loop-place : goal.invariant-loop-place
invariant-loop-place l =
    (l.self ≡ l.fn.self) × ((j : ℕ) → j < l.place → get_or l.self.words j 0 ≡ 0)
