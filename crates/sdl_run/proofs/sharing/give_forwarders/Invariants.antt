use Rattle.std.proofs.Common.{◌+◌, ◌≤◌, length, vec_len, vec_capacity}
use Rattle.sdl_run_threads.specs.declared.kinds.Kind.TheVariants.{Forwarder}
use Rattle.sdl_run.specs.Sharing.{forwarder_thread}
use Rattle.sdl_run.proofs.Pairs.{GivesSoFar}
use Rattle.sdl_run.proofs.sharing.give_forwarders.Given as goal

abbrev pub invariant-loop-rest : goal.invariant-loop-rest
invariant-loop-rest g l = record {
  enough : length l.rest.items ≤ length l.ends.items;
  room : vec_len l.workers + length l.rest.items ≤ vec_capacity l.workers;
  given : GivesSoFar (λ x e. Forwarder (forwarder_thread x e)) l.fn.forwarders.items l.rest.items l.fn.ends.items l.ends.items l.fn.workers.items l.workers.items;
}

abbrev pub decreases-loop-rest : goal.decreases-loop-rest
decreases-loop-rest g l = length l.rest.items
