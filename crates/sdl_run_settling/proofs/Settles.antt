-- What a driver that goes on reads and writes, and the system that it hands back.
use Rattle.std.proofs.Common.{ℕ, List, Option, Contains, map, length, ◌≡◌, sym, ◌∙◌, subst}
use Rattle.std.proofs.lemmas.List.{length-map}
use Rattle.sdl_signal.specs.declared.values.Item.{Item}
use Rattle.sdl_routes.specs.declared.route.Station.{Station}
use Rattle.sdl_routes.specs.Routes.{EachOnce}
use Rattle.sdl_queue.specs.declared.rest.Rest.{Rest}
use Rattle.sdl_queue.specs.Rest.{left_in}
use Rattle.sdl_transition_behaviour.specs.declared.step.Frame.{Frame}
use Rattle.sdl_transition_behaviour.specs.declared.step.Step.{Step}
use Rattle.sdl_forward.specs.Boards.{stations_of, lists_of}
use Rattle.sdl_block.specs.Workers.{worker_of}
use Rattle.sdl_forward_opening.proofs.Opened.{order_once}
use Rattle.sdl_run_outcome.specs.Plan.{Plan, blocks_in}
use Rattle.sdl_run_outcome.specs.EnvironmentWork.{HasReadSoFar, HasWrittenSoFar}
use Rattle.sdl_run_driver.specs.declared.closing.Closing.{Closing}
use Rattle.sdl_run_driver.specs.declared.driver.Driver.{Driver}
use Rattle.sdl_run_driver.specs.Closings.{HasReadIn, HasWrittenIn}
use Rattle.sdl_run_driver.specs.Drivers.{ReadsOver, WritesOver}
use Rattle.sdl_run_driver.specs.Drivers.{IsBetweenSteps}
use Rattle.sdl_run_driver.specs.declared.parked.Parked.{Parked}
use Rattle.sdl_run_driver.specs.Stopped.{IsParked}
use Rattle.sdl_run_driver.specs.Systems.{plan_of, IsSameSystem}
use Rattle.sdl_run_driver.proofs.Drives.{same_plan, map_map}
use Rattle.sdl_forward_opening.specs.Workers.{Among, taker}
use Rattle.sdl_run_settling.specs.Takers.{workers_with}
use Rattle.sdl_run_settling.proofs.Takers.{hops_of, taker_with}

module _ {S K I : Type 0} {F : I → Type 0} {g : _} (old new : Driver S K I F g) (same : IsSameSystem old.system new.system) where
  module _ (c : Closing S K I F g) (x y : Option (List ℕ)) where
    pub reading_over : ReadsOver (plan_of old.system) old.environment x new.environment y
        → ((start now : Option (List ℕ)) → HasReadSoFar new.system.checked new.system.routes (blocks_in (plan_of new.system)) start now new.environment → HasReadIn (plan_of new.system) start now c)
        → (start : Option (List ℕ)) → HasReadSoFar old.system.checked old.system.routes (blocks_in (plan_of old.system)) start x old.environment → HasReadIn (plan_of old.system) start y c
    reading_over over ends start h =
        subst (λ (p : Plan). HasReadIn p start y c) (same_plan old.system new.system same)
        (ends start y (subst (λ (p : Plan). HasReadSoFar p.structure p.routes (blocks_in p) start y new.environment) (sym (same_plan old.system new.system same)) (over start h)))

    pub writing_over : WritesOver (plan_of old.system) old.environment x new.environment y
        → ((start now : Option (List ℕ)) → HasWrittenSoFar new.system.checked new.system.routes (blocks_in (plan_of new.system)) start now new.environment → HasWrittenIn (plan_of new.system) start now c)
        → (start : Option (List ℕ)) → HasWrittenSoFar old.system.checked old.system.routes (blocks_in (plan_of old.system)) start x old.environment → HasWrittenIn (plan_of old.system) start y c
    writing_over over ends start h =
        subst (λ (p : Plan). HasWrittenIn p start y c) (same_plan old.system new.system same)
        (ends start y (subst (λ (p : Plan). HasWrittenSoFar p.structure p.routes (blocks_in p) start y new.environment) (sym (same_plan old.system new.system same)) (over start h)))

module _ {S K I : Type 0} {F : I → Type 0} {g : _} (may : ℕ → Frame → Step → Type 0) (p : Parked S K I F g) (parked : IsParked may p) where
  -- there is one queue left for each station
  pub left_once : EachOnce (stations_of p.rests.items)
  left_once =
      subst EachOnce (map_map (λ (e : Station × List Item). e.0) (λ (r : Station × Rest). (r.0, left_in r.1)) p.rests.items)
      (order_once (stations_of (lists_of p.rests.items)) parked.work.board.order)

  -- who takes at a station where something is left is among the workers
  pub taker_left : (s : Station) → Contains (stations_of p.rests.items) s → Among (taker s) (workers_with (length p.system.blocks.items) (hops_of p.forwarders.items))
  taker_left s at =
      let stations : stations_of (lists_of p.rests.items) ≡ stations_of p.rests.items = map_map (λ (e : Station × List Item). e.0) (λ (r : Station × Rest). (r.0, left_in r.1)) p.rests.items in
      let blocks : length p.system.blocks.items ≡ length p.system.checked.blocks = sym (length-map p.system.blocks.items worker_of) ∙ parked.work.blocks in
      taker_with p.system.checked p.system.routes s (length p.system.blocks.items) p.forwarders.items parked.plan.structure parked.plan.routes
      (parked.work.board.only s (subst (λ (l : List Station). Contains l s) (sym stations) at)) blocks parked.work.forwarders

  -- the workers stand the same where what is left is on a board
  pub on_board : (board : List (Station × List Item)) → board ≡ lists_of p.rests.items
      → IsBetweenSteps may (plan_of p.system) (record { blocks = map worker_of p.system.blocks.items; environment = p.environment; forwarders = p.forwarders.items; board = board }) p.system.blocks.items
  on_board board e =
      subst (λ (b : List (Station × List Item)). IsBetweenSteps may (plan_of p.system) (record { blocks = map worker_of p.system.blocks.items; environment = p.environment; forwarders = p.forwarders.items; board = b }) p.system.blocks.items)
      (sym e) parked
