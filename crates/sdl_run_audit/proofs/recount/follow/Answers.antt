use Rattle.std.proofs.Common.{length, map, ap, sym, ◌∙◌, subst, arith}
use Rattle.std.proofs.lemmas.List.{length-map}
use Rattle.std.specs.Option.{option_to_list}
use Rattle.sdl_block_hand.specs.declared.hand.Hand.{Hand}
use Rattle.sdl_instances_log.specs.Log.{sent, arrived}
use Rattle.sdl_routes.specs.Table.{IsTableRoute}
use Rattle.std.specs.List.{AllByRecursion}
use Rattle.sdl_transition.specs.Bound.{structure_of, routes_of}
use Rattle.sdl_forward_opening.specs.Workers.{workers_in}
use Rattle.sdl_forward.specs.Boards.{lists_of}
use Rattle.sdl_forward.specs.Serials.{AreSerial}
use Rattle.sdl_run_outcome.specs.Lists.{held_in}
use Rattle.sdl_run_outcome.specs.Outcome.{WorkerHand}
use Rattle.sdl_run_ledger.specs.Counts.{summed, of_event}
use Rattle.sdl_run_driver.specs.Closings.{plan_of_bound, outcome_in}
use Rattle.sdl_run_recount.specs.Totals.{AddsUpTo}
use Rattle.sdl_run_recount.specs.Trails.{HasRoutes}
use Rattle.sdl_run_audit.proofs.Followed.{both, enough_hands, enough_logs, keeps_routes, is_output, is_found}
use Rattle.sdl_run_audit.proofs.Parts.{parts, parts_in, Follows, same_parts, routes_there}
use Rattle.sdl_run_audit.proofs.recount.follow.Goals as goal

pub add_logs-requires-clause-routes : goal.add_logs-requires-clause-routes
add_logs-requires-clause-routes g c =
    routes_there (structure_of c.args.closing.now.bound) c.structure-structure.result.now (routes_of c.args.closing.now.bound) c.routes-routes.result.now (c.structure-structure.ensures.structure ∙ c.checked.ensures) c.routes-routes.ensures c.requires.routes

pub add_logs-requires-clause-lists : goal.add_logs-requires-clause-lists
add_logs-requires-clause-lists g c = subst (λ n. HasRoutes n c.in_ok-trail.trail) c.len-count.ensures.value c.in_ok-trail.ensures.routes

pub add_logs-requires-clause-logs : goal.add_logs-requires-clause-logs
add_logs-requires-clause-logs g c =
    let v = c.args.closing.now in
    let a = enough_logs (plan_of_bound v.bound 0) (outcome_in g.K.LogStore.events v) c.requires.complete in
    let b = length-map v.logs.items g.K.LogStore.events in
    let d = ap length (c.as_slice-workers.ensures.value ∙ (c.in_ok-workers.ensures.workers ∙ ap workers_in (c.structure-structure.ensures.structure ∙ c.checked.ensures))) in
    let e = ap length c.as_slice-logs.ensures.value in
    omega (arith, a, b, d, e)

pub add_environment-requires-clause-routes : goal.add_environment-requires-clause-routes
add_environment-requires-clause-routes g c =
    routes_there (structure_of c.args.closing.now.bound) c.structure-structure.result.now (routes_of c.args.closing.now.bound) c.routes-routes.result.now (c.structure-structure.ensures.structure ∙ c.checked.ensures) c.routes-routes.ensures c.requires.routes

pub add_environment-requires-clause-lists : goal.add_environment-requires-clause-lists
add_environment-requires-clause-lists g c = keeps_routes (length c.routes-routes.result.now) c.in_ok-add_logs.ensures.grows (subst (λ n. HasRoutes n c.in_ok-trail.trail) c.len-count.ensures.value c.in_ok-trail.ensures.routes)

pub add_standing-requires-clause-lists : goal.add_standing-requires-clause-lists
add_standing-requires-clause-lists g c = keeps_routes (length c.routes-routes.result.now) c.in_ok-add_environment.ensures (keeps_routes (length c.routes-routes.result.now) c.in_ok-add_logs.ensures.grows (subst (λ n. HasRoutes n c.in_ok-trail.trail) c.len-count.ensures.value c.in_ok-trail.ensures.routes))

pub add_standing-requires-clause-hands : goal.add_standing-requires-clause-hands
add_standing-requires-clause-hands g c =
    let v = c.args.closing.now in
    let a = enough_hands (plan_of_bound v.bound 0) (outcome_in g.K.LogStore.events v) c.requires.complete in
    let b = length-map v.hands.items held_in in
    let d = ap length (c.as_slice-workers.ensures.value ∙ (c.in_ok-workers.ensures.workers ∙ ap workers_in (c.structure-structure.ensures.structure ∙ c.checked.ensures))) in
    let e = ap length c.as_slice-hands.ensures.value in
    omega (arith, a, b, d, e)

pub add_standing-requires-clause-serial : goal.add_standing-requires-clause-serial
add_standing-requires-clause-serial g c = subst AreSerial (sym c.as_slice-rests.ensures.value) c.requires.serial

pub add_outgoing-requires-clause-routes : goal.add_outgoing-requires-clause-routes
add_outgoing-requires-clause-routes g c =
    routes_there (structure_of c.args.closing.now.bound) c.structure-structure.result.now (routes_of c.args.closing.now.bound) c.routes-routes.result.now (c.structure-structure.ensures.structure ∙ c.checked.ensures) c.routes-routes.ensures c.requires.routes

pub add_outgoing-requires-clause-lists : goal.add_outgoing-requires-clause-lists
add_outgoing-requires-clause-lists g c = keeps_routes (length c.routes-routes.result.now) c.in_ok-add_standing.ensures (keeps_routes (length c.routes-routes.result.now) c.in_ok-add_environment.ensures (keeps_routes (length c.routes-routes.result.now) c.in_ok-add_logs.ensures.grows (subst (λ n. HasRoutes n c.in_ok-trail.trail) c.len-count.ensures.value c.in_ok-trail.ensures.routes)))

pub add_outgoing-requires-clause-hands : goal.add_outgoing-requires-clause-hands
add_outgoing-requires-clause-hands g c =
    let v = c.args.closing.now in
    let a = enough_hands (plan_of_bound v.bound 0) (outcome_in g.K.LogStore.events v) c.requires.complete in
    let b = length-map v.hands.items held_in in
    let d = ap length (c.as_slice-workers.ensures.value ∙ (c.in_ok-workers.ensures.workers ∙ ap workers_in (c.structure-structure.ensures.structure ∙ c.checked.ensures))) in
    let e = ap length c.as_slice-hands.ensures.value in
    omega (arith, a, b, d, e)

pub returns-clause-output : goal.returns-clause-output
returns-clause-output g c =
    let v = c.args.closing.now in
    let events = g.K.LogStore.events in
    let plan = plan_of_bound v.bound 0 in
    let o = outcome_in events v in
    let kept = λ (h : Hand). option_to_list (held_in h).kept in
    let outgoing = λ (h : Hand). (held_in h).outgoing in
    let rows = c.routes-routes.ensures in
    let at_hand =
    parts c.structure-structure.result.now c.routes-routes.result.now c.as_slice-workers.result.now (map (λ log. sent (events log)) c.as_slice-logs.result.now) (map (λ log. arrived (events log)) c.as_slice-logs.result.now)
    c.as_slice-put.result.now c.as_slice-received.result.now (map kept c.as_slice-hands.result.now) (lists_of c.as_slice-rests.result.now) (map outgoing c.as_slice-hands.result.now) in
    let same =
    same_parts at_hand (parts_in plan o) (c.structure-structure.ensures.structure ∙ c.checked.ensures) rows (c.as_slice-workers.ensures.value ∙ (c.in_ok-workers.ensures.workers ∙ ap workers_in (c.structure-structure.ensures.structure ∙ c.checked.ensures)))
    (ap (map (λ log. sent (events log))) c.as_slice-logs.ensures.value ∙ sym (both sent events v.logs.items)) (ap (map (λ log. arrived (events log))) c.as_slice-logs.ensures.value ∙ sym (both arrived events v.logs.items))
    c.as_slice-put.ensures.value c.as_slice-received.ensures.value (ap (map kept) c.as_slice-hands.ensures.value ∙ sym (both (λ (h : WorkerHand). option_to_list h.kept) held_in v.hands.items))
    (ap lists_of c.as_slice-rests.ensures.value) (ap (map outgoing) c.as_slice-hands.ensures.value ∙ sym (both (λ (h : WorkerHand). h.outgoing) held_in v.hands.items)) in
    let have : Follows at_hand c.in_ok-trail.trail c.add_logs.new.self c.add_environment.new.self c.add_standing.new.self c.add_outgoing.new.self =
    record { logs = c.in_ok-add_logs.ensures.grows; env = c.in_ok-add_environment.ensures; stand = c.in_ok-add_standing.ensures; last = c.in_ok-add_outgoing.ensures } in
    let follows = subst (λ p. Follows p c.in_ok-trail.trail c.add_logs.new.self c.add_environment.new.self c.add_standing.new.self c.add_outgoing.new.self) same have in
    let shown = subst (AllByRecursion IsTableRoute) rows c.len-count.ensures.table.shown in
    let has = subst (λ n. HasRoutes n c.in_ok-trail.trail) (c.len-count.ensures.value ∙ ap length rows) c.in_ok-trail.ensures.routes in
    is_output plan o c.requires.complete shown c.in_ok-trail.trail c.add_logs.new.self c.add_environment.new.self c.add_standing.new.self c.add_outgoing.new.self c.in_ok-trail.ensures.output c.in_ok-trail.ensures.found (length plan.routes) has
    follows.logs follows.env follows.stand follows.last

pub returns-clause-found : goal.returns-clause-found
returns-clause-found g c =
    let v = c.args.closing.now in
    let events = g.K.LogStore.events in
    let plan = plan_of_bound v.bound 0 in
    let o = outcome_in events v in
    let kept = λ (h : Hand). option_to_list (held_in h).kept in
    let outgoing = λ (h : Hand). (held_in h).outgoing in
    let rows = c.routes-routes.ensures in
    let at_hand =
    parts c.structure-structure.result.now c.routes-routes.result.now c.as_slice-workers.result.now (map (λ log. sent (events log)) c.as_slice-logs.result.now) (map (λ log. arrived (events log)) c.as_slice-logs.result.now)
    c.as_slice-put.result.now c.as_slice-received.result.now (map kept c.as_slice-hands.result.now) (lists_of c.as_slice-rests.result.now) (map outgoing c.as_slice-hands.result.now) in
    let same =
    same_parts at_hand (parts_in plan o) (c.structure-structure.ensures.structure ∙ c.checked.ensures) rows (c.as_slice-workers.ensures.value ∙ (c.in_ok-workers.ensures.workers ∙ ap workers_in (c.structure-structure.ensures.structure ∙ c.checked.ensures)))
    (ap (map (λ log. sent (events log))) c.as_slice-logs.ensures.value ∙ sym (both sent events v.logs.items)) (ap (map (λ log. arrived (events log))) c.as_slice-logs.ensures.value ∙ sym (both arrived events v.logs.items))
    c.as_slice-put.ensures.value c.as_slice-received.ensures.value (ap (map kept) c.as_slice-hands.ensures.value ∙ sym (both (λ (h : WorkerHand). option_to_list h.kept) held_in v.hands.items))
    (ap lists_of c.as_slice-rests.ensures.value) (ap (map outgoing) c.as_slice-hands.ensures.value ∙ sym (both (λ (h : WorkerHand). h.outgoing) held_in v.hands.items)) in
    let have : Follows at_hand c.in_ok-trail.trail c.add_logs.new.self c.add_environment.new.self c.add_standing.new.self c.add_outgoing.new.self =
    record { logs = c.in_ok-add_logs.ensures.grows; env = c.in_ok-add_environment.ensures; stand = c.in_ok-add_standing.ensures; last = c.in_ok-add_outgoing.ensures } in
    let follows = subst (λ p. Follows p c.in_ok-trail.trail c.add_logs.new.self c.add_environment.new.self c.add_standing.new.self c.add_outgoing.new.self) same have in
    let shown = subst (AllByRecursion IsTableRoute) rows c.len-count.ensures.table.shown in
    let has = subst (λ n. HasRoutes n c.in_ok-trail.trail) (c.len-count.ensures.value ∙ ap length rows) c.in_ok-trail.ensures.routes in
    is_found plan o c.requires.complete shown c.in_ok-trail.trail c.add_logs.new.self c.add_environment.new.self c.add_standing.new.self c.add_outgoing.new.self c.in_ok-trail.ensures.output c.in_ok-trail.ensures.found (length plan.routes) has
    follows.logs follows.env follows.stand follows.last

pub returns-clause-lists : goal.returns-clause-lists
returns-clause-lists g c =
    subst (λ rs. HasRoutes (length rs) c.add_outgoing.new.self) c.routes-routes.ensures
    (keeps_routes (length c.routes-routes.result.now) c.in_ok-add_outgoing.ensures (keeps_routes (length c.routes-routes.result.now) c.in_ok-add_standing.ensures (keeps_routes (length c.routes-routes.result.now) c.in_ok-add_environment.ensures
    (keeps_routes (length c.routes-routes.result.now) c.in_ok-add_logs.ensures.grows (subst (λ n. HasRoutes n c.in_ok-trail.trail) c.len-count.ensures.value c.in_ok-trail.ensures.routes)))))

pub returns-clause-totals : goal.returns-clause-totals
returns-clause-totals g c =
    subst (λ vs. AddsUpTo c.args.totals.now (summed (λ log. summed of_event (g.K.LogStore.events log)) vs) c.add_logs.new.totals) c.as_slice-logs.ensures.value c.in_ok-add_logs.ensures.totals
