use Rattle.std.proofs.Common.{◌≡◌, [], take, map}
use Rattle.sdl_queue.specs.declared.rest.Rest.TheVariants.{Serial}
use Rattle.sdl_forward.proofs.board.empty_queues.Given as goal

abbrev pub invariant-loop-station : goal.invariant-loop-station
invariant-loop-station l = l.rests.items ≡ map (λ s. (s, Serial [])) (take l.station-index l.stations)
