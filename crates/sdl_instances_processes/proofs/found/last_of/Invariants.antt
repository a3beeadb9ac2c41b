use Rattle.std.proofs.Common.{map, deque_items}
use Rattle.sdl_instances_processes.specs.Arrivals.{IsLastOf}
use Rattle.sdl_instances_processes.proofs.found.last_of.Given as goal

abbrev pub invariant-loop-place : goal.invariant-loop-place
invariant-loop-place l = IsLastOf (map deque_items l.queues) l.place l.found
