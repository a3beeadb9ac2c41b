use Rattle.std.proofs.Common.{take}
use Rattle.sdl_run_ledger.specs.Counts.{Adds, summed, of_output}
use Rattle.sdl_run_ledger.proofs.ledger.Ledger.add_outputs.Given as goal

abbrev pub invariant-loop-output : goal.invariant-loop-output
invariant-loop-output l = Adds l.fn.self (summed of_output (take l.output-index l.outputs)) l.self
