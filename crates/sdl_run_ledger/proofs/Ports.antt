-- The signals in the ports of a block: each that entered was consumed, or was there when the instance stopped, or still waits.
use Rattle.std.proofs.Common.{◌≡◌, ℕ, ◌+◌, ◌≤◌, List, [], ◌∷◌, ◌++◌, Option, None, Some, length, length-append, unwrap_or, sum_by, ap, sym, ◌∙◌, arith}
use Rattle.std.proofs.lemmas.List.Sums.{sum_by-cons, sum_by-append, sum_by-set, sum_by-remove}
use Rattle.std.proofs.lemmas.Option.{slice_get_within, get_or_from_slice_get}
use Rattle.sdl_signal.specs.declared.ids.BlockId.{BlockId}
use Rattle.sdl_signal.specs.declared.ids.SetId.{SetId}
use Rattle.sdl_signal.specs.declared.values.Pid.{Pid}
use Rattle.sdl_signal.specs.declared.values.Pid.TheVariants as pid
use Rattle.sdl_signal.specs.declared.values.Value.{Value}
use Rattle.sdl_signal.specs.declared.values.Item.{Item}
use Rattle.sdl_transition_behaviour.specs.declared.step.Frame.{Frame}
use Rattle.sdl_transition_behaviour.specs.declared.step.Step.{Step}
use Rattle.sdl_transition_behaviour.specs.declared.step.Action.{Action}
use Rattle.sdl_transition_behaviour.specs.declared.step.Action.TheVariants as action
use Rattle.sdl_transition_behaviour.specs.declared.step.Next.{Next}
use Rattle.sdl_transition_behaviour.specs.declared.step.Next.TheVariants as next_is
use Rattle.sdl_transition.specs.Rules.{Rule}
use Rattle.sdl_instances_log.specs.declared.event.Cause.TheVariants as cause
use Rattle.sdl_instances_log.specs.declared.event.Done.{Done}
use Rattle.sdl_instances_log.specs.declared.event.Done.TheVariants as done
use Rattle.sdl_instances_log.specs.declared.event.Event.{Event}
use Rattle.sdl_instances_log.specs.declared.event.Event.TheVariants as event
use Rattle.sdl_instances_log.specs.declared.event.Trigger.{Trigger}
use Rattle.sdl_instances_log.specs.declared.event.Trigger.TheVariants as trigger
use Rattle.sdl_signal.specs.declared.ids.StateId.{StateId}
use Rattle.sdl_transition_saves.specs.Saves.{saved_by}
use Rattle.sdl_instances_processes.specs.Ports.{TakesOut}
use Rattle.sdl_instances_processes.proofs.Ports.{length_taken}
use Rattle.sdl_instances_processes.specs.Record.{Record}
use Rattle.sdl_instances.specs.Machine.{State, System, FitsAt, Becomes, Leaves, Does, DoesAll, Finishes, Transits, Turns, IsCreated, created_record, consumed, next_any}
use Rattle.sdl_instances.specs.Run.{IsRun, Leads, initial, waiting}
use Rattle.sdl_instances.proofs.Initial.{initial_waiting}
use Rattle.sdl_run_ledger.specs.Counts.{entered_in, fired_in, implicit_in, stopped_in, fired_by, implicit_by}

becomes_waits : (p : Pid) (r t : Record) (old new : State) → Becomes p r t old new → waiting new.living + length r.port ≡ waiting old.living + length t.port
becomes_waits p r t old new b =
    let f : Pid × Record → ℕ = λ e. length e.1.port in
    let written = ap waiting b.living in
    let moved = sum_by-set f old.living b.place (p, t) (p, r) (slice_get_within old.living b.place (p, r) b.was) in
    let was = ap f (get_or_from_slice_get old.living b.place (p, r) (p, r) b.was) in
    omega (arith, written, moved, was)

leaves_waits : (p : Pid) (r : Record) (old new : State) → Leaves p r old new → waiting new.living + length r.port ≡ waiting old.living
leaves_waits p r old new l =
    let f : Pid × Record → ℕ = λ e. length e.1.port in
    let written = ap waiting l.living in
    let moved = sum_by-remove f old.living l.place (p, r) (slice_get_within old.living l.place (p, r) l.was) in
    let was = ap f (get_or_from_slice_get old.living l.place (p, r) (p, r) l.was) in
    omega (arith, written, moved, was)

same_waits : (old new : State) → new ≡ old → waiting new.living ≡ waiting old.living
same_waits old new e = ap (λ (s : State). waiting s.living) e

module _ (may : ℕ → Frame → Step → Type 0) (sys : System) where
  -- an instance is created with an empty port
  created_waits : (set : SetId) (p q : Pid) (old new : State) → IsCreated sys set p q old new → waiting new.living ≡ waiting old.living
  created_waits set p q old new b =
      let f : Pid × Record → ℕ = λ e. length e.1.port in
      let written = ap waiting b.living in
      let both = sum_by-append f old.living ((q, created_record b.rules.vars b.rules.saves p) ∷ []) in
      let one = sum_by-cons f (q, created_record b.rules.vars b.rules.saves p) [] in
      omega (arith, written, both, one)

  does_waits : (p : Pid) (old : State) (a : Action) (d : Done) (new : State) → Does may (FitsAt sys.routes) sys p old a d new → waiting new.living ≡ waiting old.living
  does_waits p old (action.Output signal to via) (done.Sent i) new (set, own, r, lives, sent, same) = same_waits old new same
  does_waits p old (action.Output signal to via) (done.NoRoute origin id) new (set, own, r, lives, none, named, same) = same_waits old new same
  does_waits p old (action.Create set) (done.Made pid.Null) new (full, (r, became)) =
      let b = becomes_waits p r (record r { offspring = pid.Null }) old new became in omega (arith, b)
  does_waits p old (action.Create set) (done.Made (pid.Inst own serial)) new (r, mid, creation, became) =
      let b = becomes_waits p r (record r { offspring = pid.Inst own serial }) mid new became in
      let c = created_waits set p (pid.Inst own serial) old mid creation in
      omega (arith, b, c)
  does_waits p old (action.Create set) (done.Made pid.Env) new did = absurd did
  does_waits p old (action.Output signal to via) (done.Made q) new did = absurd did
  does_waits p old (action.Create set) (done.Sent i) new did = absurd did
  does_waits p old (action.Create set) (done.NoRoute origin id) new did = absurd did

  all_waits : (p : Pid) (old : State) (todo : List Action) (ds : List Done) (new : State) → DoesAll may (FitsAt sys.routes) sys p old todo ds new → waiting new.living ≡ waiting old.living
  all_waits p old [] [] new same = same_waits old new same
  all_waits p old (a ∷ todo) (d ∷ ds) new (mid, one, rest) = all_waits p mid todo ds new rest ∙ does_waits p old a d mid one
  all_waits p old [] (d ∷ ds) new did = absurd did
  all_waits p old (a ∷ todo) [] new did = absurd did

  -- what was in the port of an instance that stops waits no longer
  finishes_waits : (p : Pid) (old : State) (vars : List Value) (next : Next) (stopped : Option ℕ) (new : State) → Finishes p old vars next stopped new
      → waiting old.living ≡ unwrap_or stopped 0 + waiting new.living
  finishes_waits p old vars (next_is.State q) None new (r, became) =
      let b = becomes_waits p r (record r { state = Some q; vars = vars }) old new became in omega (arith, b)
  finishes_waits p old vars next_is.Stop (Some dropped) new (r, left, count) =
      let b = leaves_waits p r old new left in omega (arith, b, count)
  finishes_waits p old vars (next_is.State q) (Some dropped) new f = absurd f
  finishes_waits p old vars next_is.Stop None new f = absurd f

  transits_waits : (rule : Rule) (p : Pid) (frame : Frame) (step : Step) (did : List Done) (stopped : Option ℕ) (old new : State)
      → Transits may (FitsAt sys.routes) sys rule p frame step did stopped old new → waiting old.living ≡ unwrap_or stopped 0 + waiting new.living
  transits_waits rule p frame step did stopped old new made =
      sym (all_waits p old step.actions.items did made.acted made.actions) ∙ finishes_waits p made.acted step.vars.items step.next stopped new made.finish

  consumed_waits : (p : Pid) (r : Record) (q : StateId) (i : Item) (rest : List Item) (old new : State) → TakesOut (saved_by r.saves q) r.port i rest → Becomes p r (consumed r i rest) old new → waiting old.living ≡ 1 + waiting new.living
  consumed_waits p r q i rest old new port became =
      let b = becomes_waits p r (consumed r i rest) old new became in
      let long = length_taken (saved_by r.saves q) r.port i rest port in
      omega (arith, b, long)

  turns_waits : (p : Pid) (old : State) (t : Trigger) (f : Frame) (s : Option Step) (did : List Done) (stopped : Option ℕ) (new : State) → Turns may (FitsAt sys.routes) sys p old t f s did stopped new
      → waiting old.living ≡ fired_by t + implicit_by t + unwrap_or stopped 0 + waiting new.living
  turns_waits p old trigger.Start f (Some step) did stopped new (r, rules, lives, fresh, own, shown, made) =
      let b = transits_waits rules.start p f step did stopped old new made in omega (arith, b)
  turns_waits p old (trigger.Fire i) f (Some step) did stopped new (r, rest, q, rules, rule, mid, state, port, own, row, became, shown, made) =
      let a = consumed_waits p r q i rest old mid port became in
      let b = transits_waits rule p f step did stopped mid new made in
      omega (arith, a, b)
  turns_waits p old (trigger.Implicit i) f None did None new (r, rest, q, rules, state, port, own, row, became, shown, none) =
      let a = consumed_waits p r q i rest old new port became in omega (arith, a)
  turns_waits p old trigger.Start f None did stopped new made = absurd made
  turns_waits p old (trigger.Fire i) f None did stopped new made = absurd made
  turns_waits p old (trigger.Implicit i) f (Some step) did stopped new made = absurd made
  turns_waits p old (trigger.Implicit i) f None did (Some dropped) new made = absurd made

  next_waits : (old : State) (e : Event) (new : State) → next_any may sys old e new → waiting old.living + entered_in e ≡ fired_in e + implicit_in e + stopped_in e + waiting new.living
  next_waits old (event.Turn q t f s did stopped) new made = let a = turns_waits q old t f s did.items stopped new made in omega (arith, a)
  next_waits old (event.Entered i q) new (admits, (r, became)) =
      let a = becomes_waits q r (record r { port = r.port ++ i ∷ [] }) old new became in
      let b : length (r.port ++ i ∷ []) ≡ length r.port + 1 = length-append r.port (i ∷ []) in
      omega (arith, a, b)
  next_waits old (event.Discarded i cause.Gone) new (gone, same) = let a = same_waits old new same in omega (arith, a)
  next_waits old (event.Discarded i cause.NoInstance) new (any, none, same) = let a = same_waits old new same in omega (arith, a)

  leads_waits : (old : State) (log : List Event) (new : State) → Leads may sys old log new
      → waiting old.living + sum_by entered_in log ≡ sum_by fired_in log + sum_by implicit_in log + sum_by stopped_in log + waiting new.living
  leads_waits old [] new same = let a = same_waits old new same in omega (arith, a)
  leads_waits old (e ∷ log) new (mid, one, rest) =
      let a = next_waits old e mid one in
      let b = leads_waits mid log new rest in
      let c1 = sum_by-cons entered_in e log in
      let c2 = sum_by-cons fired_in e log in
      let c3 = sum_by-cons implicit_in e log in
      let c4 = sum_by-cons stopped_in e log in
      omega (arith, a, b, c1, c2, c3, c4)

pub ports_balance : (may : ℕ → Frame → Step → Type 0) (sys : System) (block : BlockId) (log : List Event) (final : State) → IsRun may sys block log final
    → sum_by entered_in log ≡ sum_by fired_in log + sum_by implicit_in log + sum_by stopped_in log + waiting final.living
ports_balance may sys block log final run =
    let a = leads_waits may sys (initial sys.rules sys.sets block) log final run.leads in
    let b = initial_waiting block sys.rules 0 sys.sets in
    omega (arith, a, b)

pub entered_few : (log : List Event) → sum_by entered_in log ≤ length log
entered_few [] = omega arith
entered_few (event.Entered i p ∷ log) = let a = sum_by-cons entered_in (event.Entered i p) log in let b = entered_few log in omega (arith, a, b)
entered_few (event.Discarded i c ∷ log) = let a = sum_by-cons entered_in (event.Discarded i c) log in let b = entered_few log in omega (arith, a, b)
entered_few (event.Turn p t f s did stopped ∷ log) = let a = sum_by-cons entered_in (event.Turn p t f s did stopped) log in let b = entered_few log in omega (arith, a, b)

pub few_wait : (may : ℕ → Frame → Step → Type 0) (sys : System) (block : BlockId) (log : List Event) (final : State) → IsRun may sys block log final → waiting final.living ≤ length log
few_wait may sys block log final run =
    let a = ports_balance may sys block log final run in
    let b = entered_few log in
    omega (arith, a, b)
