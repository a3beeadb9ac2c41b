use Rattle.std.proofs.Common.{◌≡◌, ◌+◌, ◌≤◌, ◌++◌, length, vec_capacity}
use Rattle.sdl_instances_packed_log.proofs.packed.move_all.Given as goal

abbrev pub invariant-loop-to : goal.invariant-loop-to
invariant-loop-to g l = record {
  items : l.to.items ++ l.from.items ≡ l.fn.to.items ++ l.fn.from.items;
  room : length l.to.items + length l.from.items ≤ vec_capacity l.to;
  capacity : vec_capacity l.to ≡ vec_capacity l.fn.to;
}

abbrev pub decreases-loop-to : goal.decreases-loop-to
decreases-loop-to g l = length l.from.items
