use Rattle.std.proofs.Common.{◌≡◌, ◌++◌, drop}
use Rattle.sdl_forward_opening.specs.Workers.{delaying_from}
use Rattle.sdl_forward_opening.proofs.order.paths_of.Given as goal

abbrev pub invariant-loop-number : goal.invariant-loop-number
invariant-loop-number l = l.paths.items ++ delaying_from l.number (drop l.number l.channels) ≡ delaying_from 0 l.channels
