use Rattle.std.proofs.Common.{◌<◌, length, subst}
use Rattle.sdl_forward_opening.specs.Workers.{ways_in}
use Rattle.sdl_instances_packed_log.specs.Packed.{event_shown}
use Rattle.sdl_run_ledger.specs.Counts.{of_event}
use Rattle.sdl_run_recount.specs.Along.{starts_at, ends_at}
use Rattle.sdl_run_recount.proofs.Growing.{grows_not, events_then, adds_nothing, adds_then}
use Rattle.sdl_run_recount.proofs.trail.Trail.add_log.Goals as goal

pub loop-number-init : goal.loop-number-init
loop-number-init g c =
    let t = ways_in c.args.structure.now c.args.routes.now in
    (grows_not (starts_at t c.args.worker) (ends_at t c.args.worker) c.args.self.now, adds_nothing of_event c.args.totals.now)

pub loop-number-preserved : goal.loop-number-preserved
loop-number-preserved g c =
    let t = ways_in c.args.structure.now c.args.routes.now in
    let es = g.K.LogStore.events c.args.log.now in
    let x = event_shown c.event_at-event.result in
    let less : c.loop-number.number < length es = subst (λ n. c.loop-number.number < n) c.number-number-end.ensures c.loop-number-test.true in (
      events_then (starts_at t c.args.worker) (ends_at t c.args.worker) es c.loop-number.number x less c.event_at-event.ensures c.loop-number.invariant.0 c.in_ok-add_event.ensures,
      adds_then of_event es c.loop-number.number x less c.event_at-event.ensures c.loop-number.invariant.1 c.add_event-in-loop-number.ensures,
    )
