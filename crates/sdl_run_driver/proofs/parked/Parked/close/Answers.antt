use Rattle.std.proofs.Common.{ℕ, Bool, true, false, List, MatchBool, ◌≡◌, length, ap, sym, ◌∙◌, subst}
use Rattle.sdl_routes.specs.declared.route.Station.{Station}
use Rattle.sdl_queue.specs.declared.rest.Rest.{Rest}
use Rattle.sdl_run_outcome.specs.declared.end.RunEnd.{RunEnd}
use Rattle.sdl_run_outcome.specs.Outcome.{Outcome}
use Rattle.sdl_run_ledger.specs.Counts.{CountsFit, IsLedgerOf, waiting_in}
use Rattle.sdl_run_driver.specs.Ended.{HasEnded}
use Rattle.sdl_run_outcome.specs.Plan.{blocks_in}
use Rattle.sdl_run_order.specs.Driver.{finals_of}
use Rattle.sdl_run_driver.specs.Stopped.{site_of_parked}
use Rattle.sdl_run_driver.specs.Systems.{plan_of}
use Rattle.sdl_run_driver.specs.Drivers.{AllDone, SomeUndone, AllLeft, SomeLeft}
use Rattle.sdl_run_driver.specs.Closings.{outcome_left, end_by, AreLogsCounted}
use Rattle.sdl_instances_log.specs.declared.counts.Counts.{Counts}
use Rattle.std.proofs.lemmas.Slice.Zip.{AllZip-long}
use Rattle.sdl_run_driver.proofs.Readings.{reads_shown, writes_shown}
use Rattle.sdl_run_driver.proofs.Closes.{fits, closes, closes_unsettled, stops_as, same_shown}
use Rattle.sdl_run_driver.proofs.Closes.{names_refused}
use Rattle.sdl_run_driver.proofs.parked.Parked.close.Goals.{then-settled, else-settled}
use Rattle.sdl_run_driver.proofs.parked.Parked.close.Goals as goal

pub of-ledger-requires-clause-fits : goal.of-ledger-requires-clause-fits
of-ledger-requires-clause-fits g c =
    let left = c.leave-left.result in
    subst CountsFit
    (sym (same_shown g.K.LogStore.events left.logs.items c.as_slice-2.result.now left.env_put.items c.as_slice-4.result.now left.env_received.items c.as_slice-5.result.now left.hands.items c.as_slice-6.result.now left.rests.items c.as_slice-7.result.now
    c.as_slice-2.ensures.value c.as_slice-4.ensures.value c.as_slice-5.ensures.value c.as_slice-6.ensures.value c.as_slice-7.ensures.value ∙ c.leave-left.ensures.outcome))
    (fits g.S.Agents.may (plan_of c.args.self.system) c.requires.driving.plan (site_of_parked c.args.self) c.requires.driving.work)

pub of-ledger-requires-clause-counts : goal.of-ledger-requires-clause-counts
of-ledger-requires-clause-counts g c =
    let left = c.leave-left.result in
    subst (λ ls. AreLogsCounted g.K.LogStore.events ls c.as_slice-3.result.now) (sym c.as_slice-2.ensures.value)
    (subst (λ (cs : List Counts). AreLogsCounted g.K.LogStore.events left.logs.items cs) (sym c.as_slice-3.ensures.value) c.leave-left.ensures.counted)

pub of-ledger-requires-clause-long : goal.of-ledger-requires-clause-long
of-ledger-requires-clause-long g c =
    let left = c.leave-left.result in
    ap length c.as_slice-3.ensures.value ∙ (AllZip-long _ left.logs.items left.counts.items c.leave-left.ensures.counted ∙ sym (ap length c.as_slice-2.ensures.value))

pub returns-clause-ended : goal.returns-clause-ended
returns-clause-ended g c =
    let may = g.S.Agents.may in
    let d = c.args.self in
    let left = c.leave-left.result in
    let rests = left.rests.items in
    let same = c.leave-left.ensures.outcome in
    let spent = c.first_spent-spent.result in
    let ledger = c.of-ledger.result in
    let slices =
    same_shown g.K.LogStore.events left.logs.items c.as_slice-2.result.now left.env_put.items c.as_slice-4.result.now left.env_received.items c.as_slice-5.result.now left.hands.items c.as_slice-6.result.now rests c.as_slice-7.result.now
    c.as_slice-2.ensures.value c.as_slice-4.ensures.value c.as_slice-5.ensures.value c.as_slice-6.ensures.value c.as_slice-7.ensures.value in
    let counts : IsLedgerOf (outcome_left g.K.LogStore.events left) (waiting_in (finals_of (site_of_parked d))) ledger =
    subst (λ (n : ℕ). IsLedgerOf (outcome_left g.K.LogStore.events left) n ledger) c.waiting-waiting.ensures (subst (λ (o : Outcome). IsLedgerOf o c.waiting-waiting.result ledger) slices c.of-ledger.ensures) in
    let P : RunEnd → Type 0 = λ e. HasEnded may (plan_of d.system) (outcome_left g.K.LogStore.events left) e ledger in
    let settled : (b : Bool) → c.are_settled-settled.result ≡ b → MatchBool b (AllDone (site_of_parked d).blocks) (SomeUndone (site_of_parked d).blocks) =
    λ b e. subst (λ (x : Bool). MatchBool x (AllDone (site_of_parked d).blocks) (SomeUndone (site_of_parked d).blocks)) e c.are_settled-settled.ensures in
    elim c.if-settled.branch [
      | then-settled w ↦ subst P (sym (c.end_of.ensures ∙ ap (λ (q : Bool). end_by c.args.refused spent q) w.quiet-is))
          (closes may (plan_of d.system) c.requires.driving.plan (site_of_parked d) c.requires.driving.work (outcome_left g.K.LogStore.events left) same rests (ap (λ (o : Outcome). o.rests) same) ledger counts c.args.refused spent c.requires.refused c.first_spent-spent.ensures true w.is_all_empty-quiet.result
          (settled true w.if-settled.true) (subst (λ (rs : List (Station × Rest)). MatchBool w.is_all_empty-quiet.result (AllLeft rs) (SomeLeft rs)) w.as_slice.ensures.value w.is_all_empty-quiet.ensures))
      | else-settled w ↦ subst P (sym (c.end_of.ensures ∙ ap (λ (q : Bool). end_by c.args.refused spent q) w.quiet-is))
          (closes_unsettled may (plan_of d.system) c.requires.driving.plan (site_of_parked d) c.requires.driving.work (outcome_left g.K.LogStore.events left) same rests (ap (λ (o : Outcome). o.rests) same) ledger counts c.args.refused spent c.requires.refused c.first_spent-spent.ensures (settled false w.if-settled.false))
    ]

pub returns-clause-reading : goal.returns-clause-reading
returns-clause-reading g c =
    let d = c.args.self in
    let left = c.leave-left.result in
    reads_shown d.system.checked d.system.routes (blocks_in (plan_of d.system)) d.environment c.requires.driving.work.environment left.env_put.items left.input (ap (λ (o : Outcome). o.env_put) c.leave-left.ensures.outcome) c.leave-left.ensures.input

pub returns-clause-writing : goal.returns-clause-writing
returns-clause-writing g c =
    let d = c.args.self in
    let left = c.leave-left.result in
    writes_shown d.system.checked d.system.routes (blocks_in (plan_of d.system)) d.environment left.env_received.items left.output (ap (λ (o : Outcome). o.env_received) c.leave-left.ensures.outcome) c.leave-left.ensures.output

pub returns-clause-stopped : goal.returns-clause-stopped
returns-clause-stopped g c =
    let d = c.args.self in
    stops_as (plan_of d.system) (site_of_parked d) c.leave-left.ensures.own c.args.refused c.first_spent-spent.result c.if-settled.quiet c.leave-left.result.input c.end_of.result
    c.requires.refused c.leave-left.ensures.input c.end_of.ensures

pub returns-clause-left : goal.returns-clause-left
returns-clause-left g c = c.leave-left.ensures.outcome

pub returns-clause-refusal : goal.returns-clause-refusal
returns-clause-refusal g c = names_refused c.args.refused c.first_spent-spent.result c.if-settled.quiet c.end_of.result c.end_of.ensures
