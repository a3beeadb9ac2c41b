-- From what a run left, and how its chart was written, to what is told of both.
use Rattle.std.proofs.Common.{◌≡◌, ℕ, List, Option, Vec, Global, map, inl, inr, refl, ap, ◌∙◌, subst, arith}
use Rattle.std.specs.Io.KnownBytes.{Keeps}
use Rattle.std.proofs.KnownBytes.{Appends-kept}
use Rattle.sdl_signal.specs.declared.ends.InputEnd.{InputEnd}
use Rattle.sdl_signal.specs.declared.ends.OutputEnd.{OutputEnd}
use Rattle.sdl_signal.specs.declared.ends.OutputEnd.TheVariants as output
use Rattle.sdl_structure_parts.specs.Structure.{Structure}
use Rattle.sdl_routes.specs.declared.route.TableRow.{TableRow}
use Rattle.sdl_run_outcome.specs.declared.end.RunEnd.{RunEnd}
use Rattle.sdl_run_outcome.specs.Outcome.{Outcome, WorkerHand}
use Rattle.sdl_run_outcome.specs.declared.environment_output.EnvOut.{EnvOut}
use Rattle.sdl_run_outcome.specs.Lists.{held_in}
use Rattle.sdl_signal.specs.declared.values.Item.{Item}
use Rattle.sdl_instances_log.specs.declared.event.Event.{Event}
use Rattle.sdl_block_hand.specs.declared.hand.Hand.{Hand}
use Rattle.sdl_routes.specs.declared.route.Station.{Station}
use Rattle.sdl_forward.specs.Boards.{lists_of}
use Rattle.sdl_transition.specs.declared.binding.Bound.{Bound}
use Rattle.sdl_transition.specs.Bound.{structure_of, routes_of}
use Rattle.sdl_run_driver.specs.declared.closing.Closing.{Closing}
use Rattle.sdl_run_driver.specs.Closings.{outcome_in, StopsByMemory}
use Rattle.sdl_run_audit.specs.Audits.{IsSameClosing}
use Rattle.sdl_chart_words.specs.declared.sets.Charting.{Charting}
use Rattle.sdl_transition_behaviour.specs.declared.step.Frame.{Frame}
use Rattle.sdl_transition_behaviour.specs.declared.step.Step.{Step}
use Rattle.sdl_transition.specs.Rules.{Rules}
use Rattle.sdl_run_outcome.specs.Plan.{Plan, blocks_in}
use Rattle.sdl_run_outcome.specs.EnvironmentWork.{HasReadAll}
use Rattle.sdl_run_ledger.specs.declared.ledger.Ledger.{Ledger}
use Rattle.sdl_run_driver.specs.Ended.{HasEnded}
use Rattle.sdl_app_file_runs.proofs.Told.{not_refused}
use Rattle.sdl_app_file_runs.specs.Outcomes.{IsToldBy}
use Rattle.sdl_chart_runs.specs.declared.drawn.ChartFault.{ChartFault}
use Rattle.sdl_chart_runs.specs.Charts.{HasWrittenChart, IsWhyNone, HasToldChart, HasCharted}

abbrev made : List (List Event) → List EnvOut → List Item → List WorkerHand → List (Station × List Item) → Outcome
made logs put received hands rests = record { logs = logs; env_put = put; env_received = received; hands = hands; rests = rests }

abbrev planned : Structure → List TableRow → List (List Rules) → ℕ → Plan
planned s routes rules budget = record { structure = s; routes = routes; rules = rules; budget = budget }

module _ (s : Structure) (routes : List TableRow) (states : List (List (List ℕ))) (c : Charting) (o : Outcome) where
  -- what is told of a run whose chart was written, or met a fault
  pub told_chart : (read : InputEnd) (end : RunEnd) (written : OutputEnd) (old mid new : Option (List ℕ)) (status : ℕ) → IsToldBy read written end status
      → (written ≡ output.Whole → HasWrittenChart s routes states c o old mid) → Keeps mid new → HasToldChart s routes states c o read end old new status
  told_chart read end output.Whole old mid new status told chart kept = inl (told, (let t = chart refl in (t.0, t.1, Appends-kept old mid new t.0 t.2 kept)))
  told_chart read end output.WriteFault old mid new status told chart kept = inr (inl told)

  -- what is told of a run that has no chart
  pub told_refused : (read : InputEnd) (end : RunEnd) (fault : ChartFault) (old new : Option (List ℕ)) → IsWhyNone c o fault → Keeps old new → HasToldChart s routes states c o read end old new 3
  told_refused read end fault old new why kept = inr (inr (record { fault = fault; why = why; unwritten = kept; is = refl }))

-- a run by this plan, whose budget is that of its structure
pub was_charted : (may : ℕ → Frame → Step → Type 0) (s : Structure) (routes : List TableRow) (rules : List (List Rules)) (budget : ℕ) (states : List (List (List ℕ))) (c : Charting)
    (unread rest old new : Option (List ℕ)) (o : Outcome) (end : RunEnd) (ledger : Ledger) (read : InputEnd) (status : ℕ)
    → budget ≡ s.budget → HasEnded may (planned s routes rules budget) o end ledger → HasReadAll s routes (blocks_in (planned s routes rules budget)) unread rest o.env_put read
    → StopsByMemory read end → HasToldChart s routes states c o read end old new status
    → HasCharted may (planned s routes rules s.budget) states c unread rest old new status
was_charted may s routes rules budget states c unread rest old new o end ledger read status same h reads stops told =
    subst (λ (b : ℕ). HasCharted may (planned s routes rules b) states c unread rest old new status) same
    (record { outcome = o; end = end; ledger = ledger; read = read; ended = h; reading = reads; stopped = stops; told = told })

-- the status of such a run is not that of a refusal
pub not_one : (s : Structure) (routes : List TableRow) (states : List (List (List ℕ))) (c : Charting) (o : Outcome) (read : InputEnd) (end : RunEnd) (old new : Option (List ℕ)) (status : ℕ)
    → HasToldChart s routes states c o read end old new status → status ≡ 1 → ⊥
not_one s routes states c o read end old new status (inl told) e = not_refused read output.Whole end status told.0 e
not_one s routes states c o read end old new status (inr (inl told)) e = not_refused read output.WriteFault end status told e
not_one s routes states c o read end old new status (inr (inr refused)) e = omega (arith, refused.is, e)

module _ {S K I : Type 0} {F : I → Type 0} {g : _} (events : K → List Event) (old new : Closing S K I F g) (same : IsSameClosing old new) where
  -- an audit leaves what a run left
  pub same_outcome : outcome_in events new ≡ outcome_in events old
  same_outcome =
      ap (λ (logs : Vec K Global). made (map events logs.items) new.env_put.items new.env_received.items (map held_in new.hands.items) (lists_of new.rests.items)) same.logs
      ∙ (ap (λ (put : Vec EnvOut Global). made (map events old.logs.items) put.items new.env_received.items (map held_in new.hands.items) (lists_of new.rests.items)) same.env_put
      ∙ (ap (λ (received : Vec Item Global). made (map events old.logs.items) old.env_put.items received.items (map held_in new.hands.items) (lists_of new.rests.items)) same.env_received
      ∙ (ap (λ (hands : Vec Hand Global). made (map events old.logs.items) old.env_put.items old.env_received.items (map held_in hands.items) (lists_of new.rests.items)) same.hands
      ∙ ap (λ (rests : List (Station × List Item)). made (map events old.logs.items) old.env_put.items old.env_received.items (map held_in old.hands.items) rests) same.rests)))

  -- so what is told of it after the audit is told of it
  pub told_again : (states : List (List (List ℕ))) (c : Charting) (before after : Option (List ℕ)) (status : ℕ)
      → HasToldChart (structure_of new.bound) (routes_of new.bound) states c (outcome_in events new) new.input new.end before after status
      → HasToldChart (structure_of old.bound) (routes_of old.bound) states c (outcome_in events old) old.input old.end before after status
  told_again states c before after status h =
      subst (λ (b : Bound S I F g). HasToldChart (structure_of b) (routes_of b) states c (outcome_in events old) old.input old.end before after status) same.bound
      (subst (λ (o : Outcome). HasToldChart (structure_of new.bound) (routes_of new.bound) states c o old.input old.end before after status) same_outcome
      (subst (λ (read : InputEnd). HasToldChart (structure_of new.bound) (routes_of new.bound) states c (outcome_in events new) read old.end before after status) same.input
      (subst (λ (end : RunEnd). HasToldChart (structure_of new.bound) (routes_of new.bound) states c (outcome_in events new) new.input end before after status) same.end h)))
