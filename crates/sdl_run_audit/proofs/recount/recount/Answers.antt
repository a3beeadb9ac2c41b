use Rattle.std.proofs.Common.{sym, subst, length}
use Rattle.sdl_transition.specs.Bound.{routes_of}
use Rattle.sdl_forward.specs.Serials.{AreSerial}
use Rattle.sdl_run_ledger.specs.Counts.{summed, of_event}
use Rattle.sdl_run_driver.specs.Closings.{plan_of_bound, outcome_in}
use Rattle.sdl_run_recount.specs.Totals.{AddsUpTo}
use Rattle.sdl_run_recount.specs.Trails.{HasRoutes, output_on, found_on}
use Rattle.sdl_run_audit.specs.Audits.{Answers}
use Rattle.sdl_run_audit.proofs.Answered.{answered, found_there}
use Rattle.sdl_run_audit.proofs.recount.recount.Goals as goal

pub follow-requires-clause-serial : goal.follow-requires-clause-serial
follow-requires-clause-serial g c = subst AreSerial c.as_slice-rests.ensures.value (c.are_serial.ensures c.if-not-are_serial.false)

pub first_fault-first-requires : goal.first_fault-first-requires
first_fault-first-requires g c = subst (λ rs. HasRoutes (length rs) c.in-Ok.trail) (sym c.routes-routes.ensures) c.in-Ok.ensures.lists

pub is_right-right-requires : goal.is_right-right-requires
is_right-right-requires g c = subst (λ t. AddsUpTo t (summed (λ log. summed of_event (g.K.LogStore.events log)) c.args.closing.now.logs.items) c.follow.new.totals) c.new-totals.ensures c.in-Ok.ensures.totals

pub returns : goal.returns
returns g c =
    let v = c.args.closing.now in
    let plan = plan_of_bound v.bound 0 in
    let o = outcome_in g.K.LogStore.events v in
    let trail = c.in-Ok.trail in
    subst (Answers plan o v.ledger) (sym c.verdict.ensures)
    (answered plan o v.ledger (output_on trail) (found_on trail) c.in-Ok.ensures.output c.in-Ok.ensures.found c.first_fault-first.result c.is_right-right.result
    (found_there (routes_of v.bound) c.routes-routes.result.now c.first_fault-first.result (output_on trail) (found_on trail) c.routes-routes.ensures c.first_fault-first.ensures) c.is_right-right.ensures)
