-- What a closing shows is what the driver left.
use Rattle.std.proofs.Common.{ℕ, ◌<◌, ◌≤◌, Bool, true, false, cond, List, [], ◌∷◌, ◌++◌, length, map, Option, Some, None, MatchOption, MatchBool, ◌≡◌, ◌≢◌, refl, ap, sym, ◌∙◌, subst, arith, append_assoc}
use Rattle.sdl_signal.specs.declared.values.Item.{Item}
use Rattle.sdl_routes.specs.declared.route.Station.{Station}
use Rattle.sdl_transition_behaviour.specs.declared.step.Frame.{Frame}
use Rattle.sdl_transition_behaviour.specs.declared.step.Step.{Step}
use Rattle.sdl_instances_log.specs.declared.event.Event.{Event}
use Rattle.sdl_queue.specs.declared.rest.Rest.{Rest}
use Rattle.sdl_forward.specs.Boards.{lists_of}
use Rattle.sdl_block_hand.specs.declared.hand.Hand.{Hand}
use Rattle.sdl_block_hand.specs.Work.{Working}
use Rattle.sdl_block.specs.Workers.{worker_of}
use Rattle.sdl_block.specs.declared.worker.BlockWorker.{BlockWorker}
use Rattle.sdl_forward.specs.Forwards.{Forwarding}
use Rattle.sdl_run_outcome.specs.declared.end.RunEnd.{RunEnd}
use Rattle.sdl_run_outcome.specs.declared.environment_output.EnvOut.{EnvOut}
use Rattle.sdl_signal.specs.declared.ends.InputEnd.{InputEnd}
use Rattle.sdl_signal.specs.declared.ends.InputEnd.TheVariants as input
use Rattle.sdl_run_outcome.specs.EnvironmentWork.{EnvWorking, OwnEnd, input_end}
use Rattle.sdl_run_outcome.specs.Plan.{Plan, IsPlan, workers_of}
use Rattle.sdl_run_outcome.specs.Outcome.{WorkerHand, Outcome}
use Rattle.sdl_run_ledger.specs.declared.ledger.Ledger.{Ledger}
use Rattle.sdl_run_ledger.specs.Counts.{CountsFit, IsLedgerOf, waiting_in}
use Rattle.sdl_run_outcome.specs.Ends.{EndsAs}
use Rattle.sdl_run_driver.specs.Ended.{HasEnded}
use Rattle.sdl_run_order.specs.Driver.{Site, IsAtWork, IsIdle, outcome_of, finals_of, block_hand, env_hand, forwarder_hand}
use Rattle.sdl_run_driver.specs.Drivers.{NoneSpent, FirstSpent, AllDone, SomeUndone, AllLeft, SomeLeft}
use Rattle.sdl_structure_parts.specs.Structure.{Structure}
use Rattle.sdl_routes.specs.declared.route.TableRow.{TableRow}
use Rattle.sdl_transition.specs.declared.block_parts.BlockParts.{BlockParts}
use Rattle.sdl_transition.specs.Bound.{AreOneSystem}
use Rattle.sdl_run_driver.specs.declared.closing.Room.{Room}
use Rattle.sdl_run_driver.specs.Closings.{HasRoom, StopsByMemory, NamesRefused, end_by}
use Rattle.sdl_run_outcome.specs.Lists.{held_in}
use Rattle.sdl_run_driver.proofs.Drives.{map_map}
use Rattle.sdl_run_ledger.proofs.Balanced.{counts_fit}
use Rattle.sdl_run_driver.proofs.Finish.{ended, traced, limited}
use Rattle.sdl_run_driver.proofs.Readings.{never_stopped}
use Rattle.sdl_run_driver.proofs.Stops.{knows, some_undone, ends_by}

unfoldable outcome : List (List Event) → List EnvOut → List Item → List WorkerHand → List (Station × List Item) → Outcome
outcome logs put received hands rests = record { logs = logs; env_put = put; env_received = received; hands = hands; rests = rests }

-- what the workers leave is what their site shows
module _ {S K I : Type 0} {F : I → Type 0} {g : _} (blocks : List (BlockWorker S K I F g)) (environment : EnvWorking) (forwarders : List Forwarding) (rests : List (Station × Rest))
    (logs : List (List Event)) (put : List EnvOut) (received : List Item) (hands : List WorkerHand) (logs_are : logs ≡ map (λ w. (worker_of w).core.log) blocks)
    (put_are : put ≡ environment.put) (received_are : received ≡ environment.received)
    (hands_are : hands ≡ (map (λ w. block_hand (worker_of w)) blocks ++ env_hand environment ∷ []) ++ map forwarder_hand forwarders) where
  abbrev site : Site
  site = record { blocks = map worker_of blocks; environment = environment; forwarders = forwarders; board = lists_of rests }

  same_logs : logs ≡ (outcome_of site).logs
  same_logs = logs_are ∙ sym (map_map (λ (w : Working). w.core.log) worker_of blocks)

  same_hands : hands ≡ (outcome_of site).hands
  same_hands =
      hands_are ∙ (append_assoc (map (λ w. block_hand (worker_of w)) blocks) (env_hand environment ∷ []) (map forwarder_hand forwarders)
      ∙ ap (λ (hs : List WorkerHand). hs ++ env_hand environment ∷ map forwarder_hand forwarders) (sym (map_map block_hand worker_of blocks)))

  pub same_outcome : ◌≡◌ {A = Outcome} (record { logs = logs; env_put = put; env_received = received; hands = hands; rests = lists_of rests }) (outcome_of site)
  unfolding outcome
  same_outcome =
      let o = outcome_of site in
      ap (λ (x : List (List Event)). outcome x put received hands (lists_of rests)) same_logs
      ∙ (ap (λ (x : List EnvOut). outcome o.logs x received hands (lists_of rests)) put_are
      ∙ (ap (λ (x : List Item). outcome o.logs o.env_put x hands (lists_of rests)) received_are
      ∙ ap (λ (x : List WorkerHand). outcome o.logs o.env_put o.env_received x (lists_of rests)) same_hands))

-- where the workers stop
module _ (may : ℕ → Frame → Step → Type 0) (plan : Plan) (ok : IsPlan plan) (site : Site) (work : IsAtWork may plan site) where
  -- the counts are small
  pub fits : CountsFit (outcome_of site)
  fits = counts_fit may plan (outcome_of site) (finals_of site) (traced may plan ok site work) (limited may plan ok site work)

  -- what the closing shows has ended
  module _ (o : Outcome) (same : o ≡ outcome_of site) (rests : List (Station × Rest)) (rests_are : lists_of rests ≡ site.board) (ledger : Ledger) (counts : IsLedgerOf o (waiting_in (finals_of site)) ledger)
      (refused spent : Option ℕ) (idle : MatchOption refused (IsIdle site) (λ w. w < length (workers_of plan))) (used : MatchOption spent (NoneSpent plan site.blocks) (FirstSpent plan site.blocks)) where
    ends : (end : RunEnd) → EndsAs plan (outcome_of site) (finals_of site) end → HasEnded may plan o end ledger
    ends end e =
        subst (λ (x : Outcome). HasEnded may plan x end ledger) (sym same)
        (ended may plan ok site work end ledger e (subst (λ (x : Outcome). IsLedgerOf x (waiting_in (finals_of site)) ledger) same counts))

    pub closes : (settled empty : Bool) → MatchBool settled (AllDone site.blocks) (SomeUndone site.blocks) → MatchBool empty (AllLeft rests) (SomeLeft rests)
        → HasEnded may plan o (end_by refused spent (cond settled empty false)) ledger
    closes settled empty done none =
        ends (end_by refused spent (cond settled empty false))
        (ends_by may plan ok site work refused spent (cond settled empty false) idle used
        (knows may plan ok site work settled empty rests rests_are done none))

    -- where some instance is ready it does not matter what is left
    pub closes_unsettled : SomeUndone site.blocks → HasEnded may plan o (end_by refused spent false) ledger
    closes_unsettled undone =
        ends (end_by refused spent false)
        (ends_by may plan ok site work refused spent false idle used (λ quiet. some_undone may plan ok site work undone quiet))

-- how the reading ended: it stopped only where memory was refused
end_of_reading : (w : EnvWorking) (end : InputEnd) → w.ended ≡ Some end → input_end w ≡ end
end_of_reading w end e = ap (λ (o : Option InputEnd). elim o as (λ _. InputEnd) [ None ↦ input.Stopped (length w.put) | Some x ↦ x ]) e

pub some_end : (o : Option InputEnd) → o ≢ None → (end : InputEnd) × (o ≡ Some end)
some_end None h = absurd (h refl)
some_end (Some end) h = (end, refl)

stops : (plan : Plan) (w : EnvWorking) → OwnEnd w.ended → (site : Site) → site.environment ≡ w → (refused spent : Option ℕ) (quiet : Bool)
    → MatchOption refused (IsIdle site) (λ k. k < length (workers_of plan)) → StopsByMemory (input_end w) (end_by refused spent quiet)
stops plan w own site same (Some k) spent quiet idle = λ n e. (k, refl)
stops plan w own site same None spent quiet idle = λ n e.
    let found = some_end w.ended (subst (λ (x : EnvWorking). x.ended ≢ None) same idle.ended) in
    absurd (never_stopped w.ended own found.0 found.1 n (sym (end_of_reading w found.0 found.1) ∙ e))

pub stops_as : (plan : Plan) (site : Site) → OwnEnd site.environment.ended → (refused spent : Option ℕ) (quiet : Bool) (shown : InputEnd) (end : RunEnd)
    → MatchOption refused (IsIdle site) (λ k. k < length (workers_of plan)) → shown ≡ input_end site.environment → end ≡ end_by refused spent quiet → StopsByMemory shown end
stops_as plan site own refused spent quiet shown end idle e f =
    subst (λ (x : InputEnd). StopsByMemory x end) (sym e) (subst (λ (x : RunEnd). StopsByMemory (input_end site.environment) x) (sym f) (stops plan site.environment own site refl refused spent quiet idle))

-- the end names the worker that was refused memory
names_by : (refused spent : Option ℕ) (quiet : Bool) → NamesRefused (end_by refused spent quiet) refused
names_by (Some k) spent quiet = λ w. (λ e. cc, λ e. cc)
names_by None None quiet = λ w. (λ e. cc, λ e. cc)
names_by None (Some b) true = λ w. (λ e. cc, λ e. cc)
names_by None (Some b) false = λ w. (λ e. cc, λ e. cc)

pub names_refused : (refused spent : Option ℕ) (quiet : Bool) (end : RunEnd) → end ≡ end_by refused spent quiet → NamesRefused end refused
names_refused refused spent quiet end e = subst (λ (x : RunEnd). NamesRefused x refused) (sym e) (names_by refused spent quiet)

-- what slices of its lists show is the same
unfoldable shown : {K : Type 0} → (K → List Event) → List K → List EnvOut → List Item → List Hand → List (Station × Rest) → Outcome
shown events logs put received hands rests = record { logs = map events logs; env_put = put; env_received = received; hands = map held_in hands; rests = lists_of rests }

pub same_shown : {K : Type 0} (events : K → List Event) (logs seen : List K) (put outs : List EnvOut) (received came : List Item) (hands held : List Hand) (rests left : List (Station × Rest))
    → seen ≡ logs → outs ≡ put → came ≡ received → held ≡ hands → left ≡ rests
    → ◌≡◌ {A = Outcome} (record { logs = map events seen; env_put = outs; env_received = came; hands = map held_in held; rests = lists_of left })
    (record { logs = map events logs; env_put = put; env_received = received; hands = map held_in hands; rests = lists_of rests })
unfolding shown
same_shown events logs seen put outs received came hands held rests left a b c d e =
    ap (λ x. shown events x outs came held left) a
    ∙ (ap (λ x. shown events logs x came held left) b ∙ (ap (λ x. shown events logs put x held left) c ∙ (ap (λ x. shown events logs put received x left) d ∙ ap (λ x. shown events logs put received hands x) e)))

-- lists filled one after the other
pub filled : {X : Type 0} (before after more : List X) → before ≡ [] → after ≡ before ++ more → after ≡ more
filled before after more e h = h ∙ ap (λ xs. xs ++ more) e

pub joined : (blocks with_env all fs : List WorkerHand) (env held : WorkerHand) → with_env ≡ blocks ++ env ∷ [] → env ≡ held → all ≡ with_env ++ fs → all ≡ (blocks ++ held ∷ []) ++ fs
joined blocks with_env all fs env held e h f = f ∙ ap (λ (xs : List WorkerHand). xs ++ fs) (e ∙ ap (λ (x : WorkerHand). blocks ++ x ∷ []) h)

module _ {S I : Type 0} {F : I → Type 0} {g : _} where
  pub system_kept : (may : ℕ → Frame → Step → Type 0) (s : Structure) (routes : List TableRow) (ps qs : List (BlockParts S I F g)) → qs ≡ ps → AreOneSystem may s routes ps → AreOneSystem may s routes qs
  system_kept may s routes ps qs e h = subst (AreOneSystem may s routes) (sym e) h

module _ {S K I : Type 0} {F : I → Type 0} {g : _} where
  pub less_room : (r : Room S K I F g) (a b c : ℕ) → c ≤ b → HasRoom a b r → HasRoom a c r
  less_room r a b c less h = record { parts = h.parts; logs = h.logs; hands = let k = h.hands in omega arith; counts = h.counts; counted = h.counted }
