use Rattle.std.proofs.Common.{take}
use Rattle.sdl_instances_log.specs.Log.{sent, arrived}
use Rattle.sdl_forward_opening.specs.Workers.{ways_in}
use Rattle.sdl_run_ledger.specs.Counts.{summed, of_event}
use Rattle.sdl_run_recount.specs.Along.{starts_at, ends_at, given}
use Rattle.sdl_run_recount.specs.Totals.{AddsUpTo}
use Rattle.sdl_run_recount.specs.Trails.{Grows}
use Rattle.sdl_run_recount.proofs.trail.Trail.add_log.Given as goal

abbrev pub invariant-loop-number : goal.invariant-loop-number
invariant-loop-number g l =
    Grows (λ r. given (starts_at (ways_in l.structure l.routes) l.worker r) (sent (take l.number (g.K.LogStore.events l.log)))) (λ r. given (ends_at (ways_in l.structure l.routes) l.worker r) (arrived (take l.number (g.K.LogStore.events l.log)))) l.fn.self l.self
    × AddsUpTo l.fn.totals (summed of_event (take l.number (g.K.LogStore.events l.log))) l.totals
