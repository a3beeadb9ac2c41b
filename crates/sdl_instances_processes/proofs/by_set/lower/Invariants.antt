use Rattle.std.proofs.Common.{◌≡◌, ◌++◌, map, take, drop}
use Rattle.sdl_instances_processes.specs.Places.{lowered}
use Rattle.sdl_instances_processes.proofs.by_set.lower.Given as goal

abbrev pub invariant-loop-place : goal.invariant-loop-place
invariant-loop-place l = l.place-items ≡ map (lowered l.gone) (take l.place-index l.fn.places.items) ++ drop l.place-index l.fn.places.items
