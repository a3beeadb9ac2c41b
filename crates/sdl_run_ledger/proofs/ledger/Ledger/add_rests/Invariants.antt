use Rattle.std.proofs.Common.{take}
use Rattle.sdl_queue.specs.Rest.{left_in}
use Rattle.sdl_run_ledger.specs.Counts.{Adds, summed, of_rest}
use Rattle.sdl_run_ledger.proofs.ledger.Ledger.add_rests.Given as goal

abbrev pub invariant-loop-rest : goal.invariant-loop-rest
invariant-loop-rest l = Adds l.fn.self (summed (λ r. of_rest (r.0, left_in r.1)) (take l.rest-index l.rests)) l.self
