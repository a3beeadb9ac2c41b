use Rattle.std.proofs.Common.{eqb, length, map, ap, sym, subst, MatchBool}
use Rattle.sdl_queue.specs.Rest.{left_in}
use Rattle.sdl_run_outcome.specs.Lists.{held_in}
use Rattle.sdl_run_driver.specs.Closings.{outcome_in}
use Rattle.sdl_run_recount.specs.Totals.{no_totals, AddsUpTo}
use Rattle.sdl_run_audit.specs.Audits.{IsRightLedger}
use Rattle.sdl_run_audit.proofs.Summed.{counts_of, added, same_left, judged}
use Rattle.sdl_run_audit.proofs.recount.is_right.Goals as goal

pub returns : goal.returns
returns g c =
    let v = c.args.closing.now in
    let o = outcome_in g.K.LogStore.events v in
    let put = c.as_slice-put.result.now in
    let received = c.as_slice-received.result.now in
    let hands = c.as_slice-hands.result.now in
    let rests = c.as_slice-rests.result.now in
    let whole =
    added g.K.LogStore.events held_in (λ r. (r.0, left_in r.1)) v.logs.items put received hands rests c.args.counted c.add_outputs.new.self c.add_received.new.self c.add_hands.new.self c.add_rests.new.self
    c.requires c.add_outputs.ensures c.add_received.ensures c.add_hands.ensures c.add_rests.ensures in
    let same =
    same_left (map g.K.LogStore.events v.logs.items) held_in (λ r. (r.0, left_in r.1)) put v.env_put.items received v.env_received.items hands v.hands.items rests v.rests.items
    c.as_slice-put.ensures.value c.as_slice-received.ensures.value c.as_slice-hands.ensures.value c.as_slice-rests.ensures.value in
    let adds = subst (λ x. AddsUpTo no_totals (counts_of x) c.add_rests.new.self) same whole in
    subst (λ b. MatchBool b (IsRightLedger o v.ledger) (IsRightLedger o v.ledger → ⊥)) (sym c.all_three.ensures)
    (judged o v.ledger c.are_those_of-counts.result (eqb v.ledger.environment (length received)) c.balances-balanced.result (c.are_those_of-counts.ensures (counts_of o) adds)
    (ap (λ n. eqb v.ledger.environment n) (ap length c.as_slice-received.ensures.value)) c.balances-balanced.ensures)
