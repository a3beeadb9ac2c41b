use Rattle.std.proofs.Common.{◌≡◌, ℕ, ◌+◌, ◌≤◌, ◌++◌, map, length, vec_len, vec_capacity}
use Rattle.sdl_block.specs.Workers.{behaviours_of}
use Rattle.sdl_run_serial.proofs.blocks.regain.Given as goal

abbrev pub invariant-loop-rest : goal.invariant-loop-rest
invariant-loop-rest g l = record {
  room : vec_len l.parts + length l.rest.items ≤ vec_capacity l.parts;
  all : l.parts.items ++ map behaviours_of l.rest.items ≡ l.fn.parts.items ++ map behaviours_of l.fn.workers.items;
  more : (more : ℕ) → vec_len l.fn.parts + (length l.fn.workers.items + more) ≤ vec_capacity l.fn.parts → vec_len l.parts + (length l.rest.items + more) ≤ vec_capacity l.parts;
}

abbrev pub decreases-loop-rest : goal.decreases-loop-rest
decreases-loop-rest g l = length l.rest.items
