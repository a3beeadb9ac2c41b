use Rattle.std.proofs.Common.{◌≡◌, take}
use Rattle.sdl_forward_opening.specs.Puts.{givers_at}
use Rattle.sdl_forward_opening.proofs.givers.givers_at.Given as goal

abbrev pub invariant-loop-number : goal.invariant-loop-number
invariant-loop-number l = l.givers.items ≡ givers_at l.structure (take l.number l.routes) l.station
