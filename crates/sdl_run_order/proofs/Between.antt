-- What holds between two steps holds at the start, and after each step.
use Rattle.std.proofs.Common.{ℕ, List, [], ◌∷◌, ◌++◌, reverse, set, ◌≡◌, Option, Some, None, slice_get, refl, ap, sym, ◌∙◌, subst}
use Rattle.std.specs.Option.{option_to_list}
use Rattle.std.specs.List.{flat_map, AllByRecursion}
use Rattle.std.proofs.lemmas.Bool.{cond_both}
use Rattle.sdl_instances.specs.Run.{arrived, sent}
use Rattle.sdl_signal.specs.declared.values.Item.{Item}
use Rattle.sdl_routes.specs.declared.route.Hop.{Hop}
use Rattle.sdl_routes.specs.declared.route.Station.{Station}
use Rattle.sdl_transition_behaviour.specs.declared.step.Frame.{Frame}
use Rattle.sdl_transition_behaviour.specs.declared.step.Step.{Step}
use Rattle.sdl_forward.specs.Boards.{same_hop, waiting, IsBoardOf}
use Rattle.sdl_forward.specs.declared.forwarder.Forwarded.{Forwarded}
use Rattle.sdl_forward.specs.declared.forwarder.Forwarded.TheVariants as forwarded
use Rattle.sdl_forward.specs.Forwards.{Forwarding}
use Rattle.sdl_forward.specs.Forwards as hands
use Rattle.sdl_block_hand.specs.declared.hand.Stepped.{Stepped}
use Rattle.sdl_block_hand.specs.declared.hand.Stepped.TheVariants as stepped
use Rattle.sdl_forward_opening.specs.declared.worker.Worker.{Worker}
use Rattle.sdl_forward_opening.specs.declared.worker.Worker.TheVariants.{Block, Environment, Forwarder}
use Rattle.sdl_run_outcome.specs.Stations.{Among, taker, place}
use Rattle.sdl_run_outcome.specs.Books.{standing, left, of_route}
use Rattle.sdl_run_outcome.specs.Plan.{Plan, IsPlan, MayTravel, blocks_in, ways_of, system_at}
use Rattle.sdl_block_hand.specs.Work.{Working, StepsAs}
use Rattle.sdl_run_order.specs.Driver.{Site, site_books, of_agent, held_at, IsAtWork, IsFresh, BlockSteps, EnvironmentSteps, ForwarderSteps}
use Rattle.sdl_run_outcome.specs.declared.environment_output.EnvOut.{EnvOut}
use Rattle.sdl_run_outcome.specs.EnvironmentWork.{EnvWorking, env_sent, env_origins, AreCounted, ComesIn, EnvStepsAs}
use Rattle.sdl_run_outcome.proofs.Lists.{set_same}
use Rattle.sdl_run_order.proofs.BlockStep.{block_keeps}
use Rattle.sdl_run_order.proofs.Forwarding.{moves_keep, holds_keep}
use Rattle.sdl_run_order.proofs.StepEnvironment.{env_keeps}
use Rattle.sdl_run_outcome.proofs.Environment.{fresh_sound}

unfoldable site : List Working → EnvWorking → List Forwarding → List (Station × List Item) → Site
site blocks environment forwarders board = record { blocks = blocks; environment = environment; forwarders = forwarders; board = board }

-- sites of equal parts are equal
pub site_is : (x y : Site) → y.blocks ≡ x.blocks → y.environment ≡ x.environment → y.forwarders ≡ x.forwarders → y.board ≡ x.board → x ≡ y
unfolding site
site_is x y e h f g =
    ap (λ (b : List Working). site b x.environment x.forwarders x.board) (sym e)
    ∙ (ap (λ (w : EnvWorking). site y.blocks w x.forwarders x.board) (sym h)
    ∙ (ap (λ (w : List Forwarding). site y.blocks y.environment w x.board) (sym f) ∙ ap (λ (b : List (Station × List Item)). site y.blocks y.environment y.forwarders b) (sym g)))

module _ (may : ℕ → Frame → Step → Type 0) (plan : Plan) (ok : IsPlan plan) where
  block_answer : (n : ℕ) (answer : Stepped) (old new : Site) (was is : Working) → IsAtWork may plan old → slice_get old.blocks n ≡ Some was
      → new.blocks ≡ set old.blocks n is → new.environment ≡ old.environment → new.forwarders ≡ old.forwarders → StepsAs may (system_at plan n) was old.board answer is new.board → IsAtWork may plan new
  block_answer n stepped.Did old new was is work before after env same step =
      subst (IsAtWork may plan) (site_is (record { blocks = set old.blocks n is; environment = old.environment; forwarders = old.forwarders; board = new.board }) new after env same refl)
      (block_keeps may plan ok old work n was is before new.board step.0)
  block_answer n stepped.Memory old new was is work before after env same step =
      subst (IsAtWork may plan) (site_is (record { blocks = set old.blocks n is; environment = old.environment; forwarders = old.forwarders; board = new.board }) new after env same refl)
      (block_keeps may plan ok old work n was is before new.board step)
  block_answer n stepped.Idle old new was is work before after env same step =
      subst (IsAtWork may plan) (site_is old new (after ∙ (ap (set old.blocks n) step.0 ∙ set_same old.blocks n was before)) env same step.1) work

  pub block_steps : (n : ℕ) (answer : Stepped) (old new : Site) → IsAtWork may plan old → BlockSteps may plan n answer old new → IsAtWork may plan new
  block_steps n answer old new work steps = block_answer n answer old new steps.was steps.is work steps.before steps.after steps.environment steps.forwarders steps.step

  forwarder_answer : (k : ℕ) (answer : Forwarded) (old new : Site) (was is : Forwarding) → IsAtWork may plan old → slice_get old.forwarders k ≡ Some was
      → new.forwarders ≡ set old.forwarders k is → new.blocks ≡ old.blocks → new.environment ≡ old.environment → IsBoardOf plan.routes new.board → hands.Forwards plan.routes was old.board answer is new.board → IsAtWork may plan new
  forwarder_answer k forwarded.Moved old new was is work before after same env board step =
      subst (IsAtWork may plan) (site_is (record { blocks = old.blocks; environment = old.environment; forwarders = set old.forwarders k is; board = new.board }) new same env after refl)
      (moves_keep may plan ok old work k was is before new.board board (ap (λ (f : Forwarding). f.hop) step.emptied) step)
  forwarder_answer k forwarded.Held old new was is work before after same env board step =
      subst (IsAtWork may plan) (site_is (record { blocks = old.blocks; environment = old.environment; forwarders = set old.forwarders k is; board = new.board }) new same env after refl)
      (holds_keep may plan ok old work k was is before new.board board (ap (λ (f : Forwarding). f.hop) step.held) step)
  forwarder_answer k forwarded.Idle old new was is work before after same env board step =
      subst (IsAtWork may plan) (site_is old new same env (after ∙ (ap (set old.forwarders k) step.forwarder ∙ set_same old.forwarders k was before)) step.board) work

  pub forwarder_steps : (k : ℕ) (answer : Forwarded) (old new : Site) → IsAtWork may plan old → ForwarderSteps plan k answer old new → IsAtWork may plan new
  forwarder_steps k answer old new work steps =
      forwarder_answer k answer old new steps.was steps.is work steps.before steps.after steps.blocks steps.environment steps.board steps.step

  environment_answer : (answer : Stepped) (old new : Site) → IsAtWork may plan old → new.blocks ≡ old.blocks → new.forwarders ≡ old.forwarders → IsBoardOf plan.routes new.board
      → EnvStepsAs plan.structure plan.routes (blocks_in plan) old.environment old.board answer new.environment new.board → IsAtWork may plan new
  environment_answer stepped.Did old new work blocks forwarders board step =
      subst (IsAtWork may plan) (site_is (record { blocks = old.blocks; environment = new.environment; forwarders = old.forwarders; board = new.board }) new blocks refl forwarders refl)
      (env_keeps may plan ok old work new.environment new.board board step.0)
  environment_answer stepped.Memory old new work blocks forwarders board step =
      subst (IsAtWork may plan) (site_is (record { blocks = old.blocks; environment = new.environment; forwarders = old.forwarders; board = new.board }) new blocks refl forwarders refl)
      (env_keeps may plan ok old work new.environment new.board board step)
  environment_answer stepped.Idle old new work blocks forwarders board step = subst (IsAtWork may plan) (site_is old new blocks step.0 forwarders step.1) work

  pub environment_steps : (answer : Stepped) (old new : Site) → IsAtWork may plan old → EnvironmentSteps plan answer old new → IsAtWork may plan new
  environment_steps answer old new work steps = environment_answer answer old new work steps.blocks steps.forwarders steps.board steps.step

-- at the start everything is empty
flat_none : {A B : Type 0} (f : A → List B) → ((x : A) → f x ≡ []) → (xs : List A) → flat_map f xs ≡ []
flat_none f h [] = refl
flat_none f h (x ∷ xs) = ap (λ (ys : List _). ys ++ flat_map f xs) (h x) ∙ flat_none f h xs

of_none : (f : Working → List Item) (o : Option Working) → ((w : Working) → o ≡ Some w → f w ≡ []) → (elim o as (λ _. List Item) [ None ↦ [] | Some w ↦ f w ]) ≡ []
of_none f None h = refl
of_none f (Some w) h = h w refl

agent_none : (f : Working → List Item) (env : List Item) (ws : List Working) → env ≡ [] → ((n : ℕ) (w : Working) → slice_get ws n ≡ Some w → f w ≡ []) → (v : Worker) → of_agent f env ws v ≡ []
agent_none f env ws e h (Block b) = of_none f (slice_get ws b.0) (h b.0)
agent_none f env ws e h Environment = e
agent_none f env ws e h (Forwarder k) = refl

held_none : (fs : List Forwarding) → AllByRecursion (λ (f : Forwarding). f.held ≡ None) fs → (h : Hop) → held_at fs h ≡ []
held_none [] none h = refl
held_none (f ∷ fs) none h =
    cond_both (same_hop f.hop h) (option_to_list f.held) (held_at fs h) (λ (xs : List Item). xs ≡ []) (λ e. ap (λ (o : Option Item). option_to_list o) none.0) (λ e. held_none fs none.1 h)

module _ (may : ℕ → Frame → Step → Type 0) (plan : Plan) (start : Site) (fresh : IsFresh may plan start) where
  no_sent : (v : Worker) → (site_books start).sent v ≡ []
  no_sent = agent_none (λ (w : Working). sent w.core.log) (env_sent start.environment.put) start.blocks (ap env_sent fresh.environment.put) (λ n w e. ap sent (fresh.cores n w e).1)

  no_arrived : (v : Worker) → (site_books start).arrived v ≡ []
  no_arrived = agent_none (λ (w : Working). arrived w.core.log) start.environment.received start.blocks fresh.environment.received (λ n w e. ap arrived (fresh.cores n w e).1)

  no_outgoing : (v : Worker) → (site_books start).outgoing v ≡ []
  no_outgoing = agent_none (λ (w : Working). w.outgoing) start.environment.outgoing start.blocks fresh.environment.outgoing (λ n w e. (fresh.cores n w e).3)

  no_kept : (v : Worker) → (site_books start).kept v ≡ []
  no_kept (Block b) = agent_none (λ (w : Working). option_to_list w.kept) [] start.blocks refl (λ n w e. ap (λ (o : Option Item). option_to_list o) (fresh.cores n w e).2) (Block b)
  no_kept Environment = refl
  no_kept (Forwarder h) = held_none start.forwarders fresh.held h

  no_standing : (s : Station) → standing (site_books start) s ≡ []
  no_standing s = ap (λ (xs : List Item). xs ++ waiting start.board s) (no_kept (taker s)) ∙ fresh.empty s

  all_none : (P : Item → Type 0) (xs : List Item) → xs ≡ [] → AllByRecursion P xs
  all_none P xs e = subst (AllByRecursion P) (sym e) tt

  nothing_left : (r : ℕ) → left (ways_of plan) (site_books start) r ≡ []
  nothing_left r =
      ap (λ (xs : List Item). xs ++ of_route r ((site_books start).outgoing ((ways_of plan).start r)))
      (flat_none (λ (s : Station). of_route r (standing (site_books start) s)) (λ s. ap (of_route r) (no_standing s)) (reverse ((ways_of plan).stations r)))
      ∙ ap (of_route r) (no_outgoing ((ways_of plan).start r))

  pub starts_in_order : IsAtWork may plan start
  starts_in_order =
      record {
        blocks = fresh.blocks;
        cores = λ n w e. (fresh.cores n w e).0;
        environment = fresh_sound plan.structure plan.routes (blocks_in plan) start.environment fresh.environment;
        coming = subst (λ (outs : List EnvOut). AllByRecursion (ComesIn plan.routes) (env_sent outs)) (sym fresh.environment.put) tt;
        counted = subst (λ (outs : List EnvOut). AreCounted (blocks_in plan) 0 (env_origins outs)) (sym fresh.environment.put) tt;
        forwarders = fresh.forwarders;
        board = fresh.board;
        order = record {
          in_order = λ r leads.
              ap (of_route r) (no_sent ((ways_of plan).start r))
              ∙ sym (ap (λ (xs : List Item). xs ++ left (ways_of plan) (site_books start) r) (ap (of_route r) (no_arrived ((ways_of plan).finish r))) ∙ nothing_left r);
          in_place = λ s. all_none (λ (i : Item). Among s ((ways_of plan).stations i.route.0)) (standing (site_books start) s) (no_standing s);
          let_in = λ w a. all_none (λ (i : Item). Among (place w) ((ways_of plan).stations i.route.0)) ((site_books start).arrived w) (no_arrived w);
          leaving = λ w a. all_none (λ (i : Item). (ways_of plan).start i.route.0 ≡ w) ((site_books start).outgoing w) (no_outgoing w);
        };
        waiting_legal = λ s. all_none (MayTravel plan) (standing (site_books start) s) (no_standing s);
        outgoing_legal = λ w a. all_none (MayTravel plan) ((site_books start).outgoing w) (no_outgoing w);
      }
