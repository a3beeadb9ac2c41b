use Rattle.std.proofs.Common.{take}
use Rattle.sdl_run_ledger.specs.Counts.{Adds, summed, of_event}
use Rattle.sdl_run_ledger.proofs.ledger.Ledger.of.Given as goal

abbrev pub invariant-loop-number : goal.invariant-loop-number
invariant-loop-number g l = Adds l.initial.ledger (summed (λ v. summed of_event (g.K.LogStore.events v)) (take l.number l.logs)) l.ledger
