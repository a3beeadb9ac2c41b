use Rattle.std.proofs.Common.{take}
use Rattle.sdl_run_outcome.specs.Lists.{held_in}
use Rattle.sdl_run_ledger.specs.Counts.{summed, of_hand}
use Rattle.sdl_run_recount.specs.Totals.{AddsUpTo}
use Rattle.sdl_run_recount.proofs.totals.Totals.add_hands.Given as goal

abbrev pub invariant-loop-hand : goal.invariant-loop-hand
invariant-loop-hand l = AddsUpTo l.fn.self (summed (λ h. of_hand (held_in h)) (take l.hand-index l.hands)) l.self
