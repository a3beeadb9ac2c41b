-- The totals of a closing whose parts were added up one after another, and its ledger.
use Rattle.std.proofs.Common.{◌≡◌, ℕ, ◌+◌, Bool, true, false, ◌&&◌, List, [], ◌∷◌, length, map, eqb, sum_by, refl, ap, sym, ◌∙◌, subst, arith, MatchBool}
use Rattle.std.proofs.lemmas.Bool.{false≢true, eq-eqb, eqb-true, and_parts, and_from}
use Rattle.std.proofs.lemmas.List.Sums.{sum_by-cons}
use Rattle.sdl_instances_log.specs.declared.event.Event.{Event}
use Rattle.sdl_run_outcome.specs.declared.environment_output.EnvOut.{EnvOut}
use Rattle.sdl_run_outcome.specs.Outcome.{Outcome, WorkerHand}
use Rattle.sdl_routes.specs.declared.route.Station.{Station}
use Rattle.sdl_signal.specs.declared.values.Item.{Item}
use Rattle.sdl_run_ledger.specs.declared.ledger.Ledger.{Ledger}
use Rattle.sdl_run_ledger.specs.Counts.{Balances, no_counts, summed, of_event, of_output, of_hand, of_rest, items_held, items_at, over_events, all_output, all_no_route, all_entered, all_left, output_by, no_route_by, entered_in, no_instance_in, gone_in, fired_in, implicit_in, stopped_in}
use Rattle.sdl_instances_log.specs.Log.{done_in}
use Rattle.sdl_run_ledger.proofs.Adding.{no_sum, sum_of_ones, sum_map}
use Rattle.sdl_run_recount.specs.declared.totals.Totals.{Totals}
use Rattle.sdl_run_recount.specs.Totals.{no_totals, grown, AddsUpTo, HaveSameCounts}
use Rattle.sdl_run_audit.specs.Audits.{IsRightLedger, gone_on, consumed, is_balanced}

abbrev pub left_of : List (List Event) → List EnvOut → List Item → List WorkerHand → List (Station × List Item) → Outcome
left_of logs puts received hands rests = record { logs = logs; env_put = puts; env_received = received; hands = hands; rests = rests }

-- what a run left, as a ledger that counts it; how many wait is not among it
abbrev pub counts_of : Outcome → Ledger
counts_of o =
    record no_counts {
      output = all_output o;
      no_route = all_no_route o;
      entered = all_entered o;
      no_instance = over_events no_instance_in o;
      gone = over_events gone_in o;
      left = all_left o;
      fired = over_events fired_in o;
      implicit = over_events implicit_in o;
      stopped = over_events stopped_in o;
    }

-- five sums, one after another
two : (o a b s t : ℕ) → a ≡ grown o s → b ≡ grown a t → b ≡ grown o (s + t)
two o a b s t p q = omega arith

five : (a b c d e s t u v w n : ℕ) → a ≡ grown 0 s → b ≡ grown a t → c ≡ grown b u → d ≡ grown c v → e ≡ grown d w → n ≡ s + t + u + v + w → e ≡ grown 0 n
five a b c d e s t u v w n p q r x y z =
    let f = two 0 a b s t p q in
    let g = two 0 b c (s + t) u f r in
    let h = two 0 c d (s + t + u) v g x in
    let k = two 0 d e (s + t + u + v) w h y in
    subst (λ (m : ℕ). e ≡ grown 0 m) (sym z) k

none_each : {V : Type 0} (g : V → List Event) (vs : List V) → sum_by (λ v. sum_by (λ (e : Event). 0) (g v)) vs ≡ 0
none_each g [] = refl
none_each g (v ∷ vs) =
    let a = sum_by-cons (λ (w : _). sum_by (λ (e : Event). 0) (g w)) v vs in
    let b = no_sum (g v) in
    let c = none_each g vs in
    omega arith

module _ {V H Q : Type 0} (g : V → List Event) (h : H → WorkerHand) (q : Q → Station × List Item) (vs : List V) (puts : List EnvOut) (received : List Item) (hands : List H) (rests : List Q) where
  abbrev left_by : Outcome
  left_by = left_of (map g vs) puts received (map h hands) (map q rests)

  -- a count of the events alone
  in_logs : (f : Event → ℕ) → sum_by (λ v. sum_by f (g v)) vs ≡ over_events f left_by
  in_logs f = sym (sum_map (λ log. sum_by f log) g vs)

  pub added : (a b c d e : Totals) → AddsUpTo no_totals (summed (λ v. summed of_event (g v)) vs) a → AddsUpTo a (summed of_output puts) b → AddsUpTo b (record no_counts { entered = length received }) c
      → AddsUpTo c (summed (λ x. of_hand (h x)) hands) d → AddsUpTo d (summed (λ x. of_rest (q x)) rests) e → AddsUpTo no_totals (counts_of left_by) e
  added a b c d e one two three four five_ =
      let zero_log = none_each g vs in
      let zero_put = no_sum puts in
      let zero_hand = no_sum hands in
      let zero_rest = no_sum rests in
      let ones = sum_of_ones puts in
      let held = sum_map items_held h hands in
      let rested = sum_map items_at q rests in
      let log = summed (λ (v : V). summed of_event (g v)) vs in
      let put = summed of_output puts in
      let hand = summed (λ (x : H). of_hand (h x)) hands in
      let rest = summed (λ (x : Q). of_rest (q x)) rests in
      record {
        output = (let m = in_logs (λ (x : Event). sum_by output_by (done_in x)) in five a.output b.output c.output d.output e.output log.output put.output 0 hand.output rest.output (all_output left_by) one.output two.output three.output four.output five_.output (omega arith));
        no_route = (let m = in_logs (λ (x : Event). sum_by no_route_by (done_in x)) in five a.no_route b.no_route c.no_route d.no_route e.no_route log.no_route put.no_route 0 hand.no_route rest.no_route (all_no_route left_by) one.no_route two.no_route three.no_route four.no_route five_.no_route (omega arith));
        entered = (let m = in_logs entered_in in five a.entered b.entered c.entered d.entered e.entered log.entered put.entered (length received) hand.entered rest.entered (all_entered left_by) one.entered two.entered three.entered four.entered five_.entered (omega arith));
        no_instance = (let m = in_logs no_instance_in in five a.no_instance b.no_instance c.no_instance d.no_instance e.no_instance log.no_instance put.no_instance 0 hand.no_instance rest.no_instance (over_events no_instance_in left_by) one.no_instance two.no_instance three.no_instance four.no_instance five_.no_instance (omega arith));
        gone = (let m = in_logs gone_in in five a.gone b.gone c.gone d.gone e.gone log.gone put.gone 0 hand.gone rest.gone (over_events gone_in left_by) one.gone two.gone three.gone four.gone five_.gone (omega arith));
        left = five a.left b.left c.left d.left e.left log.left put.left 0 hand.left rest.left (all_left left_by) one.left two.left three.left four.left five_.left (omega arith);
        fired = (let m = in_logs fired_in in five a.fired b.fired c.fired d.fired e.fired log.fired put.fired 0 hand.fired rest.fired (over_events fired_in left_by) one.fired two.fired three.fired four.fired five_.fired (omega arith));
        implicit = (let m = in_logs implicit_in in five a.implicit b.implicit c.implicit d.implicit e.implicit log.implicit put.implicit 0 hand.implicit rest.implicit (over_events implicit_in left_by) one.implicit two.implicit three.implicit four.implicit five_.implicit (omega arith));
        stopped = (let m = in_logs stopped_in in five a.stopped b.stopped c.stopped d.stopped e.stopped log.stopped put.stopped 0 hand.stopped rest.stopped (over_events stopped_in left_by) one.stopped two.stopped three.stopped four.stopped five_.stopped (omega arith));
      }

-- what was left, in lists that are the same
pub same_left : {H Q : Type 0} (logs : List (List Event)) (h : H → WorkerHand) (q : Q → Station × List Item) (puts puts_ : List EnvOut) (received received_ : List Item) (hands hands_ : List H) (rests rests_ : List Q)
    → puts ≡ puts_ → received ≡ received_ → hands ≡ hands_ → rests ≡ rests_ → left_of logs puts received (map h hands) (map q rests) ≡ left_of logs puts_ received_ (map h hands_) (map q rests_)
same_left logs h q puts puts_ received received_ hands hands_ rests rests_ a b d e =
    ap (λ (xs : List EnvOut). left_of logs xs received (map h hands) (map q rests)) a
    ∙ (ap (λ (xs : List Item). left_of logs puts_ xs (map h hands) (map q rests)) b
    ∙ (ap (λ (xs : List _). left_of logs puts_ received_ (map h xs) (map q rests)) d ∙ ap (λ (xs : List _). left_of logs puts_ received_ (map h hands_) (map q xs)) e))

-- the counts are the same, and those that were received, and the equations hold
all_right : (o : Outcome) (l : Ledger) → HaveSameCounts (counts_of o) l → l.environment ≡ length o.env_received → Balances l → IsRightLedger o l
all_right o l same received balanced = (
  record {
    output = sym same.output;
    no_route = sym same.no_route;
    entered = sym same.entered;
    no_instance = sym same.no_instance;
    gone = sym same.gone;
    left = sym same.left;
    fired = sym same.fired;
    implicit = sym same.implicit;
    stopped = sym same.stopped;
    waiting_is = refl;
    environment = received;
  },
  balanced,
)

has_counts : (o : Outcome) (l : Ledger) → IsRightLedger o l → HaveSameCounts (counts_of o) l
has_counts o l right =
    record {
      output = sym right.0.output;
      no_route = sym right.0.no_route;
      entered = sym right.0.entered;
      no_instance = sym right.0.no_instance;
      gone = sym right.0.gone;
      left = sym right.0.left;
      fired = sym right.0.fired;
      implicit = sym right.0.implicit;
      stopped = sym right.0.stopped;
    }

balanced : (l : Ledger) (d : Bool) → d ≡ is_balanced l → MatchBool d (Balances l) (Balances l → ⊥)
balanced l true e =
    let p = and_parts (eqb l.output (gone_on l)) (eqb l.entered (consumed l)) (sym e) in
    (eqb-true l.output (gone_on l) p.0, eqb-true l.entered (consumed l) p.1)
balanced l false e =
    λ b. false≢true (e ∙ and_from (eqb l.output (gone_on l)) (eqb l.entered (consumed l)) (eq-eqb l.output (gone_on l) b.0) (eq-eqb l.entered (consumed l) b.1))

pub judged : (o : Outcome) (l : Ledger) (a b d : Bool) → MatchBool a (HaveSameCounts (counts_of o) l) (HaveSameCounts (counts_of o) l → ⊥) → b ≡ eqb l.environment (length o.env_received) → d ≡ is_balanced l
    → MatchBool (a && (b && d)) (IsRightLedger o l) (IsRightLedger o l → ⊥)
judged o l true true true a b d = all_right o l a (eqb-true l.environment (length o.env_received) (sym b)) (balanced l true d)
judged o l true true false a b d = λ right. balanced l false d right.1
judged o l true false d a b e = λ right. false≢true (b ∙ eq-eqb l.environment (length o.env_received) right.0.environment)
judged o l false b d a e f = λ right. a (has_counts o l right)
