use Rattle.std.proofs.Common.{◌≡◌, map}
use Rattle.sdl_forward_ends.specs.FeedsLeft.{filled}
use Rattle.sdl_forward_ends.proofs.ends.places_of.Given as goal

abbrev pub invariant-loop-station : goal.invariant-loop-station
invariant-loop-station l = l.places.items ≡ map filled l.yielded
