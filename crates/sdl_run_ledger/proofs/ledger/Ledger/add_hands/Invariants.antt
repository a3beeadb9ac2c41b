use Rattle.std.proofs.Common.{take}
use Rattle.sdl_run_outcome.specs.Lists.{held_in}
use Rattle.sdl_run_ledger.specs.Counts.{Adds, summed, of_hand}
use Rattle.sdl_run_ledger.proofs.ledger.Ledger.add_hands.Given as goal

abbrev pub invariant-loop-hand : goal.invariant-loop-hand
invariant-loop-hand l = Adds l.fn.self (summed (λ h. of_hand (held_in h)) (take l.hand-index l.hands)) l.self
