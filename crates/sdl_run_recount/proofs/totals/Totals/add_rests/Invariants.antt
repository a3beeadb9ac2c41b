use Rattle.std.proofs.Common.{take}
use Rattle.sdl_queue.specs.Rest.{left_in}
use Rattle.sdl_run_ledger.specs.Counts.{summed, of_rest}
use Rattle.sdl_run_recount.specs.Totals.{AddsUpTo}
use Rattle.sdl_run_recount.proofs.totals.Totals.add_rests.Given as goal

abbrev pub invariant-loop-rest : goal.invariant-loop-rest
invariant-loop-rest l = AddsUpTo l.fn.self (summed (λ r. of_rest (r.0, left_in r.1)) (take l.rest-index l.rests)) l.self
