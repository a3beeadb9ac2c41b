use Rattle.std.proofs.Common.{◌≡◌, drop}
use Rattle.sdl_forward_opening.specs.Puts.{giver}
use Rattle.sdl_forward_opening.proofs.givers.giver.Given as goal

abbrev pub invariant-loop-passed : goal.invariant-loop-passed
invariant-loop-passed l = giver l.worker (drop l.passed-index l.stations) l.station ≡ giver l.fn.first l.stations l.station
