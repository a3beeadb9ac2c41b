use Rattle.std.proofs.Common.{◌≡◌, ℕ, ◌<◌, ◌≤◌, length, get_or}
use Rattle.std.specs.Prelude.{bit_or}
use Rattle.sdl_forward_ends.proofs.marks.Marks.join.Given as goal

abbrev pub invariant-loop-place : goal.invariant-loop-place
invariant-loop-place l =
    (length l.self.words ≡ 4)
    × ((j : ℕ) → j < l.place → get_or l.self.words j 0 ≡ bit_or (get_or l.fn.self.words j 0) (get_or l.others.words j 0))
    × ((j : ℕ) → l.place ≤ j → get_or l.self.words j 0 ≡ get_or l.fn.self.words j 0)
