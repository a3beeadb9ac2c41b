use Rattle.std.proofs.Common.{take}
use Rattle.sdl_run_ledger.specs.Counts.{summed, of_output}
use Rattle.sdl_run_recount.specs.Totals.{AddsUpTo}
use Rattle.sdl_run_recount.proofs.totals.Totals.add_outputs.Given as goal

abbrev pub invariant-loop-output : goal.invariant-loop-output
invariant-loop-output l = AddsUpTo l.fn.self (summed of_output (take l.output-index l.outputs)) l.self
