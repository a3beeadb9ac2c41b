use Rattle.std.proofs.Common.{◌≡◌, ◌+◌, ◌≤◌, drop}
use Rattle.sdl_forward_opening.specs.Puts.{count_true}
use Rattle.sdl_forward_opening.proofs.givers.count_of.Given as goal

abbrev pub invariant-loop-mark : goal.invariant-loop-mark
invariant-loop-mark l = (l.count ≤ l.mark-index) × (l.count + count_true (drop l.mark-index l.marks) ≡ count_true l.marks)
