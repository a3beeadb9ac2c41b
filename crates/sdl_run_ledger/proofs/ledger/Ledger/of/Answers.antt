use Rattle.std.proofs.Common.{length, ap, sym, subst, get_or}
use Rattle.sdl_instances_log.specs.declared.counts.Counts.{Counts}
use Rattle.sdl_instances_log.specs.Counts.{AreCountsOf}
use Rattle.sdl_queue.specs.Rest.{left_in}
use Rattle.sdl_run_outcome.specs.Lists.{held_in}
use Rattle.sdl_run_ledger.proofs.Adding.{begins_with, log_room, put_room, hand_room, rest_room, counted, zipped_at}
use Rattle.sdl_run_ledger.proofs.ledger.Ledger.of.Goals as goal

pub add_log-requires-clause-fits : goal.add_log-requires-clause-fits
add_log-requires-clause-fits g c =
    let first = begins_with (length c.args.env_received.now) c.args.waiting c.default.result c.default.ensures in
    log_room g.K.LogStore.events held_in (λ r. (r.0, left_in r.1)) c.args.logs.now c.args.env_put.now c.args.env_received.now c.args.hands.now c.args.rests.now c.args.waiting c.requires.fits
    _ first c.loop-number.ledger c.loop-number.number c.index-logs-number.result (g.K.LogStore.events c.index-logs-number.result) c.loop-number-test.true c.loop-number.invariant (ap g.K.LogStore.events c.index-logs-number.is)

pub add_outputs-requires : goal.add_outputs-requires
add_outputs-requires g c =
    let first = begins_with (length c.args.env_received.now) c.args.waiting c.default.result c.default.ensures in
    put_room g.K.LogStore.events held_in (λ r. (r.0, left_in r.1)) c.args.logs.now c.args.env_put.now c.args.env_received.now c.args.hands.now c.args.rests.now c.args.waiting c.requires.fits
    _ first c.loop-number.number c.loop-number.ledger c.loop-number-test.false c.loop-number.invariant

pub add_hands-requires : goal.add_hands-requires
add_hands-requires g c =
    let first = begins_with (length c.args.env_received.now) c.args.waiting c.default.result c.default.ensures in
    hand_room g.K.LogStore.events held_in (λ r. (r.0, left_in r.1)) c.args.logs.now c.args.env_put.now c.args.env_received.now c.args.hands.now c.args.rests.now c.args.waiting c.requires.fits
    _ first c.loop-number.number c.loop-number.ledger c.loop-number-test.false c.loop-number.invariant c.add_outputs.new.self c.add_outputs.ensures

pub add_rests-requires : goal.add_rests-requires
add_rests-requires g c =
    let first = begins_with (length c.args.env_received.now) c.args.waiting c.default.result c.default.ensures in
    rest_room g.K.LogStore.events held_in (λ r. (r.0, left_in r.1)) c.args.logs.now c.args.env_put.now c.args.env_received.now c.args.hands.now c.args.rests.now c.args.waiting c.requires.fits
    _ first c.loop-number.number c.loop-number.ledger c.loop-number-test.false c.loop-number.invariant c.add_outputs.new.self c.add_outputs.ensures c.add_hands.new.self c.add_hands.ensures

pub returns : goal.returns
returns g c =
    let first = begins_with (length c.args.env_received.now) c.args.waiting c.default.result c.default.ensures in
    counted g.K.LogStore.events held_in (λ r. (r.0, left_in r.1)) c.args.logs.now c.args.env_put.now c.args.env_received.now c.args.hands.now c.args.rests.now c.args.waiting c.requires.fits
    _ first c.loop-number.number c.loop-number.ledger c.loop-number-test.false c.loop-number.invariant c.add_outputs.new.self c.add_outputs.ensures c.add_hands.new.self c.add_hands.ensures c.add_rests.new.self c.add_rests.ensures

pub add_log-requires-clause-counts : goal.add_log-requires-clause-counts
add_log-requires-clause-counts g c =
    let none : Counts = record { output = 0; no_route = 0; entered = 0; no_instance = 0; gone = 0; fired = 0; implicit = 0; stopped = 0 } in
    let at = zipped_at (λ log d. AreCountsOf (g.K.LogStore.events log) d) c.args.logs.now c.args.counts.now c.loop-number.number c.index-logs-number.result none c.requires.counts c.loop-number-test.true in
    subst (λ v. AreCountsOf (g.K.LogStore.events v) (get_or c.args.counts.now c.loop-number.number none)) (sym c.index-logs-number.is) at
