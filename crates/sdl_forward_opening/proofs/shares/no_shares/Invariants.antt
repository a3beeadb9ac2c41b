use Rattle.std.proofs.Common.{◌≡◌}
use Rattle.sdl_forward_opening.specs.Hands.{all_empty}
use Rattle.sdl_forward_opening.proofs.shares.no_shares.Given as goal

abbrev pub invariant-loop : goal.invariant-loop
invariant-loop l = l.shares.items ≡ all_empty l.counter
