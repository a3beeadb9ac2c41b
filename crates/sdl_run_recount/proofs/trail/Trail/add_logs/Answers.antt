use Rattle.std.proofs.Common.{◌≡◌, ◌<◌, Some, length, map, slice_get, ap, sym, ◌∙◌, subst, arith}
use Rattle.std.proofs.lemmas.List.{take_all}
use Rattle.std.proofs.lemmas.Option.{slice_get-get_or}
use Rattle.sdl_instances_log.specs.Log.{sent, arrived}
use Rattle.sdl_forward_opening.specs.Workers.{ways_in}
use Rattle.sdl_run_ledger.specs.Counts.{summed, of_event}
use Rattle.sdl_run_recount.specs.Sorted.{lists_in}
use Rattle.sdl_run_recount.specs.Along.{starts_at, ends_at, gathered}
use Rattle.sdl_run_recount.specs.Trails.{Grows}
use Rattle.sdl_run_recount.proofs.Sorting.{gathered_nothing, gathered_then}
use Rattle.sdl_run_recount.proofs.Growing.{adds_nothing, adds_then}
use Rattle.sdl_run_recount.proofs.trail.Trail.add_logs.Goals as goal

pub loop-number-init : goal.loop-number-init
loop-number-init g c =
    let t = ways_in c.args.structure.now c.args.routes.now in (
      record {
        output_gains = gathered_nothing (starts_at t) c.args.workers.now (lists_in c.args.self.now.output);
        found_gains = gathered_nothing (ends_at t) c.args.workers.now (lists_in c.args.self.now.found);
      },
      adds_nothing (λ log. summed of_event (g.K.LogStore.events log)) c.args.totals.now,
    )

pub loop-number-preserved : goal.loop-number-preserved
loop-number-preserved g c =
    let t = ways_in c.args.structure.now c.args.routes.now in
    let n = c.loop-number.number in
    let log = c.index-logs-number.result in
    let less : n < length c.args.logs.now = c.loop-number-test.true in
    let more : n < length c.args.workers.now = omega arith in
    let here : slice_get c.args.logs.now n ≡ Some log = slice_get-get_or c.args.logs.now n log less ∙ ap Some (sym c.index-logs-number.is) in (
      record {
        output_gains = gathered_then (starts_at t) (λ v. sent (g.K.LogStore.events v)) c.args.workers.now c.args.logs.now n _ log (sent (g.K.LogStore.events log)) more less (ap (λ v. sent (g.K.LogStore.events v)) c.index-logs-number.is) c.loop-number.invariant.0.output_gains c.in_ok-add_log.ensures.grows.output_gains;
        found_gains = gathered_then (ends_at t) (λ v. arrived (g.K.LogStore.events v)) c.args.workers.now c.args.logs.now n _ log (arrived (g.K.LogStore.events log)) more less (ap (λ v. arrived (g.K.LogStore.events v)) c.index-logs-number.is) c.loop-number.invariant.0.found_gains c.in_ok-add_log.ensures.grows.found_gains;
      },
      adds_then (λ v. summed of_event (g.K.LogStore.events v)) c.args.logs.now n log less here c.loop-number.invariant.1 c.in_ok-add_log.ensures.totals,
    )

pub returns-clause-grows : goal.returns-clause-grows
returns-clause-grows g c =
    let t = ways_in c.args.structure.now c.args.routes.now in
    subst (λ vs. Grows (λ r. gathered (λ w. starts_at t w r) c.args.workers.now (map (λ v. sent (g.K.LogStore.events v)) vs)) (λ r. gathered (λ w. ends_at t w r) c.args.workers.now (map (λ v. arrived (g.K.LogStore.events v)) vs)) c.args.self.now c.loop-number.self)
    (take_all c.loop-number.number c.args.logs.now c.loop-number-test.false) c.loop-number.invariant.0
