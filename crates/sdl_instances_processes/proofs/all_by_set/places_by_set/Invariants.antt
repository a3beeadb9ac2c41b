use Rattle.std.proofs.Common.{take}
use Rattle.sdl_instances_processes.specs.Places.{AreBySet}
use Rattle.sdl_instances_processes.proofs.all_by_set.places_by_set.Given as goal

abbrev pub invariant-loop-place : goal.invariant-loop-place
invariant-loop-place l = AreBySet l.by_set.lists (take l.place l.instances.entries)
