use Rattle.std.proofs.Common.{◌≡◌, take}
use Rattle.sdl_instances_processes.specs.Ready.{AreReadyCounts, room_of}
use Rattle.sdl_instances_processes.proofs.ready.ReadyCounts.recount.Given as goal

abbrev pub invariant-loop-place : goal.invariant-loop-place
invariant-loop-place l = AreReadyCounts l.self (take l.place l.instances) × (room_of l.self ≡ room_of l.fn.self)
