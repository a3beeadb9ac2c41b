use Rattle.std.proofs.Common.{map, deque_items}
use Rattle.sdl_transition_saves.specs.Saves.{holds}
use Rattle.sdl_instances_processes.specs.Arrivals.{IsFirstOf}
use Rattle.sdl_instances_processes.proofs.found.first_not_saved.Given as goal

abbrev pub invariant-loop-place : goal.invariant-loop-place
invariant-loop-place l = IsFirstOf (holds l.saved) (map deque_items l.queues) l.place l.found
