use Rattle.std.proofs.Common.{ℕ, ◌+◌, ◌≤◌, length, vec_len, vec_capacity}
use Rattle.sdl_run_threads.specs.declared.kinds.Kind.TheVariants.{Block}
use Rattle.sdl_run.specs.Sharing.{block_thread}
use Rattle.sdl_run.proofs.Pairs.{GivesSoFar}
use Rattle.sdl_run.proofs.sharing.give_blocks.Given as goal

abbrev pub invariant-loop-rest : goal.invariant-loop-rest
invariant-loop-rest g l = record {
  enough : length l.rest.items ≤ length l.ends.items;
  room : vec_len l.workers + length l.rest.items ≤ vec_capacity l.workers;
  given : GivesSoFar (λ x e. Block (block_thread l.fn.budget x e)) l.fn.blocks.items l.rest.items l.fn.ends.items l.ends.items l.fn.workers.items l.workers.items;
  more : (more : ℕ) → vec_len l.fn.workers + (length l.fn.blocks.items + more) ≤ vec_capacity l.fn.workers → vec_len l.workers + (length l.rest.items + more) ≤ vec_capacity l.workers;
}

abbrev pub decreases-loop-rest : goal.decreases-loop-rest
decreases-loop-rest g l = length l.rest.items
