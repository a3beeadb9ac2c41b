use Rattle.std.proofs.Common.{◌≡◌, ◌++◌, ◌+◌, ◌≤◌, length}
use Rattle.sdl_instances_log.proofs.stored.move_all.Given as goal

abbrev pub invariant-loop-to : goal.invariant-loop-to
invariant-loop-to g l = (l.to.items ++ l.from.items ≡ l.fn.from.items) × (length l.to.items + length l.from.items ≤ 8)

abbrev pub decreases-loop-to : goal.decreases-loop-to
decreases-loop-to g l = length l.from.items
