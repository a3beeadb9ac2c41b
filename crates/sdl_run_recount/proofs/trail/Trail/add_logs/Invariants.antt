use Rattle.std.proofs.Common.{take, map}
use Rattle.sdl_instances_log.specs.Log.{sent, arrived}
use Rattle.sdl_forward_opening.specs.Workers.{ways_in}
use Rattle.sdl_run_ledger.specs.Counts.{summed, of_event}
use Rattle.sdl_run_recount.specs.Along.{starts_at, ends_at, gathered}
use Rattle.sdl_run_recount.specs.Totals.{AddsUpTo}
use Rattle.sdl_run_recount.specs.Trails.{Grows}
use Rattle.sdl_run_recount.proofs.trail.Trail.add_logs.Given as goal

abbrev pub invariant-loop-number : goal.invariant-loop-number
invariant-loop-number g l =
    Grows (λ r. gathered (λ w. starts_at (ways_in l.structure l.routes) w r) l.workers (map (λ log. sent (g.K.LogStore.events log)) (take l.number l.logs))) (λ r. gathered (λ w. ends_at (ways_in l.structure l.routes) w r) l.workers (map (λ log. arrived (g.K.LogStore.events log)) (take l.number l.logs))) l.fn.self l.self
    × AddsUpTo l.fn.totals (summed (λ log. summed of_event (g.K.LogStore.events log)) (take l.number l.logs)) l.totals
