use Rattle.std.proofs.Common.{◌≡◌, ℕ, ◌+◌, ◌≤◌, ◌++◌, map, length, vec_len, vec_capacity}
use Rattle.sdl_run_settling.proofs.back.take_blocks.Given as goal

abbrev pub invariant-loop-rest : goal.invariant-loop-rest
invariant-loop-rest g l = record {
  block_room : vec_len l.blocks + length l.rest.items ≤ vec_capacity l.blocks;
  end_room : vec_len l.ends + length l.rest.items ≤ vec_capacity l.ends;
  all : l.blocks.items ++ map (λ t. t.block) l.rest.items ≡ l.fn.blocks.items ++ map (λ t. t.block) l.fn.threads.items;
  all_ends : l.ends.items ++ map (λ t. t.ends) l.rest.items ≡ l.fn.ends.items ++ map (λ t. t.ends) l.fn.threads.items;
  more : (more : ℕ) → vec_len l.fn.ends + (length l.fn.threads.items + more) ≤ vec_capacity l.fn.ends → vec_len l.ends + (length l.rest.items + more) ≤ vec_capacity l.ends;
}

abbrev pub decreases-loop-rest : goal.decreases-loop-rest
decreases-loop-rest g l = length l.rest.items
