use Rattle.std.proofs.Common.{◌≡◌, ◌+◌, ◌≤◌, ◌++◌, length, vec_len, vec_capacity}
use Rattle.sdl_run_settling.specs.Coming.{blocks_back, forwarders_back}
use Rattle.sdl_run_settling.proofs.back.part.Given as goal

abbrev pub invariant-loop-rest : goal.invariant-loop-rest
invariant-loop-rest g l = record {
  block_room : vec_len l.blocks + length (blocks_back l.rest.items) ≤ vec_capacity l.blocks;
  forwarder_room : vec_len l.forwarders + length (forwarders_back l.rest.items) ≤ vec_capacity l.forwarders;
  all_blocks : l.blocks.items ++ blocks_back l.rest.items ≡ l.fn.blocks.items ++ blocks_back l.fn.done.items;
  all_forwarders : l.forwarders.items ++ forwarders_back l.rest.items ≡ l.fn.forwarders.items ++ forwarders_back l.fn.done.items;
}

abbrev pub decreases-loop-rest : goal.decreases-loop-rest
decreases-loop-rest g l = length l.rest.items
