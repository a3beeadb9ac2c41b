-- The counts of a run balance, and they are small.
use Rattle.std.proofs.Common.{ℕ, ◌+◌, ◌*◌, ◌≤◌, List, [], ◌∷◌, ◌++◌, length, length-append, map, ◌≡◌, refl, ap, ◌∙◌, arith, sum_by}
use Rattle.std.specs.Option.{option_to_list}
use Rattle.std.specs.List.{flat_map, AllByRecursion}
use Rattle.std.proofs.lemmas.List.Concat.{flat_map-append}
use Rattle.std.proofs.lemmas.List.Sums.{sum_by-cons, sum_by-append}
use Rattle.sdl_signal.specs.declared.values.Item.{Item}
use Rattle.sdl_transition_behaviour.specs.declared.step.Frame.{Frame}
use Rattle.sdl_transition_behaviour.specs.declared.step.Step.{Step}
use Rattle.sdl_instances_log.specs.declared.event.Cause.TheVariants as cause
use Rattle.sdl_instances_log.specs.declared.event.Done.{Done}
use Rattle.sdl_instances_log.specs.declared.event.Done.TheVariants as done
use Rattle.sdl_instances_log.specs.declared.event.Event.{Event}
use Rattle.sdl_instances_log.specs.declared.event.Event.TheVariants as event
use Rattle.sdl_instances.specs.Machine.{State}
use Rattle.sdl_instances.specs.Run.{done_in, sent_by, sent, arrived, arrived_in, all_done, origins, origin_by, turns}
use Rattle.sdl_run_outcome.specs.declared.environment_output.EnvOut.{EnvOut}
use Rattle.sdl_run_outcome.specs.declared.environment_output.EnvOut.TheVariants as env_out
use Rattle.sdl_run_ledger.specs.declared.ledger.Ledger.{Ledger}
use Rattle.sdl_run_outcome.specs.EnvironmentWork.{env_sent}
use Rattle.sdl_run_outcome.specs.Plan.{Plan, system_at}
use Rattle.sdl_run_outcome.specs.Outcome.{WorkerHand, Outcome, AreRunsFrom}
use Rattle.sdl_run_ledger.specs.Counts.{IsTraced, IsLimited, IsLedgerOf, Balances, CountsFit, output_by, no_route_by, no_route_at, entered_in, no_instance_in, gone_in, fired_in, implicit_in, stopped_in, items_held, over_events, all_output, all_no_route, all_entered, all_left, waiting_in, most_outputs}
use Rattle.sdl_run_outcome.proofs.Sums.{sum_both}
use Rattle.sdl_run_ledger.proofs.Adding.{sum_map}
use Rattle.sdl_run_ledger.proofs.Ports.{ports_balance}
use Rattle.sdl_run_ledger.proofs.Traces.{nothing_lost}

-- an output was sent, or no route fits
done_sent : (ds : List Done) → sum_by output_by ds ≡ length (flat_map sent_by ds) + sum_by no_route_by ds
done_sent [] = refl
done_sent (done.Sent i ∷ ds) =
    let a = sum_by-cons output_by (done.Sent i) ds in let b = sum_by-cons no_route_by (done.Sent i) ds in let c = done_sent ds in omega (arith, a, b, c)
done_sent (done.NoRoute o n ∷ ds) =
    let a = sum_by-cons output_by (done.NoRoute o n) ds in let b = sum_by-cons no_route_by (done.NoRoute o n) ds in let c = done_sent ds in omega (arith, a, b, c)
done_sent (done.Made p ∷ ds) =
    let a = sum_by-cons output_by (done.Made p) ds in let b = sum_by-cons no_route_by (done.Made p) ds in let c = done_sent ds in omega (arith, a, b, c)

in_all_done : {X : Type 0} (f : Done → List X) (e : Event) (log : List Event) → length (flat_map f (all_done (e ∷ log))) ≡ length (flat_map f (done_in e)) + length (flat_map f (all_done log))
in_all_done f e log = ap length (flat_map-append f (done_in e) (all_done log)) ∙ length-append (flat_map f (done_in e)) (flat_map f (all_done log))

log_sent : (log : List Event) → sum_by (λ e. sum_by output_by (done_in e)) log ≡ length (sent log) + sum_by (λ e. sum_by no_route_by (done_in e)) log
log_sent [] = refl
log_sent (e ∷ log) =
    let a = sum_by-cons (λ (x : Event). sum_by output_by (done_in x)) e log in
    let b = sum_by-cons (λ (x : Event). sum_by no_route_by (done_in x)) e log in
    let c = in_all_done sent_by e log in
    let d = done_sent (done_in e) in
    let f = log_sent log in
    omega (arith, a, b, c, d, f)

-- what arrived entered, or was discarded
event_arrived : (e : Event) → length (arrived_in e) ≡ entered_in e + no_instance_in e + gone_in e
event_arrived (event.Entered i p) = refl
event_arrived (event.Discarded i cause.NoInstance) = refl
event_arrived (event.Discarded i cause.Gone) = refl
event_arrived (event.Turn p t f s did stopped) = refl

log_arrived : (log : List Event) → length (arrived log) ≡ sum_by entered_in log + sum_by no_instance_in log + sum_by gone_in log
log_arrived [] = refl
log_arrived (e ∷ log) =
    let a = length-append (arrived_in e) (arrived log) in
    let b = event_arrived e in
    let c1 = sum_by-cons entered_in e log in
    let c2 = sum_by-cons no_instance_in e log in
    let c3 = sum_by-cons gone_in e log in
    let d = log_arrived log in
    omega (arith, a, b, c1, c2, c3, d)

-- each line was sent, or no route fits
lines_sent : (outs : List EnvOut) → length outs ≡ length (env_sent outs) + sum_by no_route_at outs
lines_sent [] = refl
lines_sent (env_out.Sent i ∷ outs) = let a = sum_by-cons no_route_at (env_out.Sent i) outs in let b = lines_sent outs in omega (arith, a, b)
lines_sent (env_out.NoRoute o line ∷ outs) = let a = sum_by-cons no_route_at (env_out.NoRoute o line) outs in let b = lines_sent outs in omega (arith, a, b)

-- a list for each log, and one more
and_one : (f : List Event → List Item) (logs : List (List Event)) (ys : List Item) → sum_by length (map f logs ++ ys ∷ []) ≡ sum_by (λ log. length (f log)) logs + length ys
and_one f logs ys =
    let a = sum_by-append length (map f logs) (ys ∷ []) in
    let b = sum_map length f logs in
    let c = sum_by-cons length ys [] in
    omega (arith, a, b, c)

three_sums : {X : Type 0} (f g h k : X → ℕ) (xs : List X) → ((x : X) → f x ≡ g x + h x + k x) → sum_by f xs ≡ sum_by g xs + sum_by h xs + sum_by k xs
three_sums f g h k xs e =
    let a = sum_both f (λ x. g x + h x) k xs e in
    let b = sum_both (λ x. g x + h x) g h xs (λ x. refl) in
    omega (arith, a, b)

module _ (may : ℕ → Frame → Step → Type 0) (plan : Plan) (o : Outcome) (finals : List State) (h : IsTraced may plan o finals) where
  pub outputs_balance : all_output o ≡ all_no_route o + all_entered o + over_events no_instance_in o + over_events gone_in o + all_left o
  outputs_balance =
      let lost = nothing_lost may plan o finals h in
      let s = and_one sent o.logs (env_sent o.env_put) in
      let s1 = sum_both (λ (log : List Event). sum_by (λ e. sum_by output_by (done_in e)) log) (λ log. length (sent log)) (λ log. sum_by (λ e. sum_by no_route_by (done_in e)) log) o.logs log_sent in
      let s2 = lines_sent o.env_put in
      let r = and_one arrived o.logs o.env_received in
      let r1 = three_sums (λ (log : List Event). length (arrived log)) (λ log. sum_by entered_in log) (λ log. sum_by no_instance_in log) (λ log. sum_by gone_in log) o.logs log_arrived in
      let k = sum_both items_held (λ (x : WorkerHand). length (option_to_list x.kept)) (λ x. length x.outgoing) o.hands (λ x. refl) in
      let k1 = sum_map length (λ (x : WorkerHand). option_to_list x.kept) o.hands in
      let k2 = sum_map length (λ (x : WorkerHand). x.outgoing) o.hands in
      omega (arith, lost, s, s1, s2, r, r1, k, k1, k2)

runs_balance : (may : ℕ → Frame → Step → Type 0) (plan : Plan) (n : ℕ) (logs : List (List Event)) (finals : List State) → AreRunsFrom may plan n logs finals
    → sum_by (λ log. sum_by entered_in log) logs ≡ sum_by (λ log. sum_by fired_in log) logs + sum_by (λ log. sum_by implicit_in log) logs + sum_by (λ log. sum_by stopped_in log) logs + waiting_in finals
runs_balance may plan n [] [] h = refl
runs_balance may plan n (log ∷ logs) (s ∷ finals) h =
    let a = ports_balance may (system_at plan n) (record { 0 = n }) log s h.0 in
    let b = runs_balance may plan (n + 1) logs finals h.1 in
    let c1 = sum_by-cons (λ (l : List Event). sum_by entered_in l) log logs in
    let c2 = sum_by-cons (λ (l : List Event). sum_by fired_in l) log logs in
    let c3 = sum_by-cons (λ (l : List Event). sum_by implicit_in l) log logs in
    let c4 = sum_by-cons (λ (l : List Event). sum_by stopped_in l) log logs in
    let c5 = sum_by-cons (λ (x : State). sum_by (λ e. length e.1.port) x.living) s finals in
    omega (arith, a, b, c1, c2, c3, c4, c5)
runs_balance may plan n (log ∷ logs) [] h = absurd h
runs_balance may plan n [] (s ∷ finals) h = absurd h

pub entered_balance : (may : ℕ → Frame → Step → Type 0) (plan : Plan) (o : Outcome) (finals : List State) → IsTraced may plan o finals
    → all_entered o ≡ over_events fired_in o + over_events implicit_in o + over_events stopped_in o + waiting_in finals + length o.env_received
entered_balance may plan o finals h = let a = runs_balance may plan 0 o.logs finals h.lawful.runs in omega (arith, a)

pub balanced : (may : ℕ → Frame → Step → Type 0) (plan : Plan) (o : Outcome) (finals : List State) (l : Ledger) → IsTraced may plan o finals → IsLedgerOf o (waiting_in finals) l → Balances l
balanced may plan o finals l h c =
    let a = outputs_balance may plan o finals h in
    let b = entered_balance may plan o finals h in
    (omega (arith, a, c.output, c.no_route, c.entered, c.no_instance, c.gone, c.left), omega (arith, b, c.entered, c.fired, c.implicit, c.stopped, c.waiting_is, c.environment))

-- a log's outputs are its origins
done_origins : (ds : List Done) → sum_by output_by ds ≡ length (flat_map origin_by ds)
done_origins [] = refl
done_origins (done.Sent i ∷ ds) = let a = sum_by-cons output_by (done.Sent i) ds in let b = done_origins ds in omega (arith, a, b)
done_origins (done.NoRoute o n ∷ ds) = let a = sum_by-cons output_by (done.NoRoute o n) ds in let b = done_origins ds in omega (arith, a, b)
done_origins (done.Made p ∷ ds) = let a = sum_by-cons output_by (done.Made p) ds in let b = done_origins ds in omega (arith, a, b)

log_origins : (log : List Event) → sum_by (λ e. sum_by output_by (done_in e)) log ≡ length (origins log)
log_origins [] = refl
log_origins (e ∷ log) =
    let a = sum_by-cons (λ (x : Event). sum_by output_by (done_in x)) e log in
    let b = in_all_done origin_by e log in
    let c = done_origins (done_in e) in
    let d = log_origins log in
    omega (arith, a, b, c, d)

-- each log has at most eight million outputs
logs_few : (logs : List (List Event)) → AllByRecursion (λ (log : List Event). turns log ≤ 1000000) logs → AllByRecursion (λ (log : List Event). length (origins log) ≤ 8 * turns log) logs
    → sum_by (λ log. sum_by (λ e. sum_by output_by (done_in e)) log) logs ≤ 8000000 * length logs
logs_few [] t h = omega arith
logs_few (log ∷ logs) t h =
    let a = sum_by-cons (λ (l : List Event). sum_by (λ e. sum_by output_by (done_in e)) l) log logs in
    let b = log_origins log in
    let c = logs_few logs t.1 h.1 in
    omega (arith, a, b, c, t.0, h.0)

pub few_outputs : (may : ℕ → Frame → Step → Type 0) (plan : Plan) (o : Outcome) (finals : List State) → IsTraced may plan o finals → IsLimited o → all_output o ≤ most_outputs
few_outputs may plan o finals h few =
    let a = logs_few o.logs few.few_turns few.few_outputs in
    let b = h.complete.logs in
    let c = h.is_plan.structure.few_blocks in
    omega (arith, a, b, c, few.few_lines)

pub counts_fit : (may : ℕ → Frame → Step → Type 0) (plan : Plan) (o : Outcome) (finals : List State) → IsTraced may plan o finals → IsLimited o → CountsFit o
counts_fit may plan o finals h few =
    let a = few_outputs may plan o finals h few in
    let b = outputs_balance may plan o finals h in
    let c = entered_balance may plan o finals h in
    record {
      output = omega (arith, a);
      no_route = omega (arith, a, b);
      entered = omega (arith, a, b);
      no_instance = omega (arith, a, b);
      gone = omega (arith, a, b);
      left = omega (arith, a, b);
      fired = omega (arith, a, b, c);
      implicit = omega (arith, a, b, c);
      stopped = omega (arith, a, b, c);
    }

pub few_waits : (may : ℕ → Frame → Step → Type 0) (plan : Plan) (o : Outcome) (finals : List State) → IsTraced may plan o finals → IsLimited o → waiting_in finals ≤ most_outputs
few_waits may plan o finals h few =
    let a = few_outputs may plan o finals h few in
    let b = outputs_balance may plan o finals h in
    let c = entered_balance may plan o finals h in
    omega (arith, a, b, c)
