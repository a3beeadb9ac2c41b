use Rattle.std.proofs.Common.{◌≡◌, ◌+◌, ◌≤◌, ◌++◌, length, vec_len, vec_capacity}
use Rattle.sdl_run_serial.proofs.blocks.take_all.Given as goal

abbrev pub invariant-loop-rest : goal.invariant-loop-rest
invariant-loop-rest g l = record {
  room : vec_len l.list + length l.rest.items ≤ vec_capacity l.list;
  all : l.list.items ++ l.rest.items ≡ l.fn.list.items ++ l.fn.more.items;
}

abbrev pub decreases-loop-rest : goal.decreases-loop-rest
decreases-loop-rest g l = length l.rest.items
