use Rattle.std.proofs.Common.{◌≡◌}
use Rattle.sdl_forward_opening.specs.Workers.{blocks_from}
use Rattle.sdl_forward_opening.proofs.order.blocks_of.Given as goal

abbrev pub invariant-loop-number : goal.invariant-loop-number
invariant-loop-number l = l.workers.items ≡ blocks_from 0 l.number
