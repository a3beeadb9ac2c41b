-- From what holds of a driver between two steps to what a step of one block requires, and back.
use Rattle.std.proofs.Common.{ℕ, ◌<◌, List, [], map, length, get_or, slice_get, slice_set, ◌≡◌, Option, Some, option_map, unwrap_or, All, refl, ap, sym, ◌∙◌, subst}
use Rattle.std.proofs.lemmas.Option.{slice_get_read, slice_get-map}
use Rattle.std.proofs.lemmas.List.{map-set}
use Rattle.std.proofs.lemmas.List.Elements.{All-from_recursion}
use Rattle.std.specs.List.{AllByRecursion}
use Rattle.sdl_signal.specs.declared.values.Sort.{Sort}
use Rattle.sdl_signal.specs.declared.values.Item.{Item}
use Rattle.sdl_routes.specs.declared.route.TableRow.{TableRow}
use Rattle.sdl_routes.specs.declared.route.Station.{Station}
use Rattle.sdl_transition_behaviour.specs.declared.step.Frame.{Frame}
use Rattle.sdl_transition_behaviour.specs.declared.step.Step.{Step}
use Rattle.sdl_transition.specs.Rules.{Rules, block_rules}
use Rattle.sdl_instances.specs.declared.process_set.ProcessSet.{ProcessSet}
use Rattle.sdl_instances.specs.Machine.{System}
use Rattle.sdl_instances.specs.Core.{IsSound, IsLegalIn}
use Rattle.sdl_instances.specs.CoreOf.{CanFire}
use Rattle.sdl_block.specs.declared.worker.BlockWorker.{BlockWorker}
use Rattle.sdl_block_hand.specs.declared.hand.Stepped.{Stepped}
use Rattle.sdl_block_hand.specs.Work.{Working, StepsAs}
use Rattle.sdl_block.specs.Workers.{worker_of, behaviours_of, system_around}
use Rattle.sdl_block.specs.Picks.{StepsAt}
use Rattle.sdl_forward_opening.specs.declared.worker.Worker.TheVariants.{Block}
use Rattle.sdl_run_driver.specs.declared.driver.Driver.{Driver}
use Rattle.sdl_run_outcome.specs.Plan.{MayTravel, system_at}
use Rattle.sdl_run_order.specs.Driver.{BlockSteps}
use Rattle.sdl_run_driver.specs.Drivers.{site_of, IsDriving}
use Rattle.sdl_run_driver.specs.Systems.{plan_of}
use Rattle.sdl_run_driver.specs.Runs.{BlockStepsAt}
use Rattle.sdl_run_outcome.proofs.Lists.{map_set}
use Rattle.sdl_run_order.proofs.Starts.{block}
use Rattle.sdl_run_order.proofs.BlockStep.{of_block_was}

unfoldable system : List (List Sort) → List ProcessSet → List TableRow → List Rules → System
system signals sets routes rules = record { signals = signals; sets = sets; routes = routes; rules = rules }

-- a system is known by its parts
pub system_is : (x y : System) → x.signals ≡ y.signals → x.sets ≡ y.sets → x.routes ≡ y.routes → x.rules ≡ y.rules → x ≡ y
unfolding system
system_is x y a b c d =
    ap (λ (z : List (List Sort)). system z x.sets x.routes x.rules) a
    ∙ (ap (λ (z : List ProcessSet). system y.signals z x.routes x.rules) b
    ∙ (ap (λ (z : List TableRow). system y.signals y.sets z x.rules) c ∙ ap (λ (z : List Rules). system y.signals y.sets y.routes z) d))

module _ {S K I : Type 0} {F : I → Type 0} {g : _} (may : ℕ → Frame → Step → Type 0) (d : Driver S K I F g) (driving : IsDriving may d) (n : ℕ) (w : BlockWorker S K I F g)
    (within : n < length d.system.blocks.items) (found : w ≡ get_or d.system.blocks.items n w) where
  in_list : slice_get d.system.blocks.items n ≡ Some w
  in_list = slice_get_read d.system.blocks.items (length d.system.blocks.items) n w refl within found

  at_place : slice_get (map worker_of d.system.blocks.items) n ≡ Some (worker_of w)
  at_place = slice_get-map worker_of d.system.blocks.items n ∙ ap (option_map worker_of) in_list

  rules_at_place : unwrap_or (slice_get (map (λ v. block_rules (behaviours_of v)) d.system.blocks.items) n) [] ≡ block_rules (behaviours_of w)
  rules_at_place = ap (λ (o : Option (List Rules)). unwrap_or o []) (slice_get-map (λ v. block_rules (behaviours_of v)) d.system.blocks.items n ∙ ap (option_map (λ v. block_rules (behaviours_of v))) in_list)

  pub system_here : system_at (plan_of d.system) n ≡ system_around w d.system.routes
  system_here =
      let core = driving.work.cores n (worker_of w) at_place in
      system_is (system_at (plan_of d.system) n) (system_around w d.system.routes) (sym core.signals) (sym core.sets) refl rules_at_place

  pub fires_here : CanFire may (behaviours_of w)
  fires_here = subst (λ v. CanFire may (behaviours_of v)) (sym found) (driving.fire n w within)

  pub sound_here : IsSound may (system_around w d.system.routes) (worker_of w).core
  sound_here = subst (λ (s : System). IsSound may s (worker_of w).core) system_here (driving.work.cores n (worker_of w) at_place).sound

  pub legal_here : All (IsLegalIn (system_around w d.system.routes)) (worker_of w).outgoing
  legal_here =
      subst (λ (s : System). All (IsLegalIn s) (worker_of w).outgoing) system_here
      (All-from_recursion (MayTravel (plan_of d.system)) (worker_of w).outgoing
      (subst (AllByRecursion (MayTravel (plan_of d.system))) (of_block_was (λ (k : Working). k.outgoing) d.environment.outgoing (map worker_of d.system.blocks.items) n (worker_of w) (worker_of w) at_place) (driving.work.outgoing_legal (Block (block n)) tt)))

  module _ (v : BlockWorker S K I F g) (answer : Stepped) (board : List (Station × List Item)) where
    pub block_step : StepsAs may (system_around w d.system.routes) (worker_of w) d.board answer (worker_of v) board
        → BlockSteps may (plan_of d.system) n answer (site_of d) (record { blocks = map worker_of (slice_set d.system.blocks.items n v); environment = d.environment; forwarders = d.forwarders.items; board = board })
    block_step step =
        record {
          was = worker_of w;
          is = worker_of v;
          before = at_place;
          step = subst (λ (s : System). StepsAs may s (worker_of w) d.board answer (worker_of v) board) (sym system_here) step;
          after = map-set worker_of d.system.blocks.items n v;
          environment = refl;
          forwarders = refl;
        }

    pub block_step_at : (pick : ℕ) → StepsAs may (system_around w d.system.routes) (worker_of w) d.board answer (worker_of v) board → StepsAt may (system_around w d.system.routes) pick (worker_of w).core (worker_of v).core
        → BlockStepsAt may (plan_of d.system) n pick answer (site_of d) (record { blocks = map worker_of (slice_set d.system.blocks.items n v); environment = d.environment; forwarders = d.forwarders.items; board = board })
    unfolding block_step
    block_step_at pick step chosen = (block_step step, subst (λ (s : System). StepsAt may s pick (worker_of w).core (worker_of v).core) (sym system_here) chosen)

    pub same_behaviours : behaviours_of v ≡ behaviours_of w → map behaviours_of (slice_set d.system.blocks.items n v) ≡ map behaviours_of d.system.blocks.items
    same_behaviours same = map_set behaviours_of d.system.blocks.items n w v in_list same
