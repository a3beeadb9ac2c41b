-- Before the first step of a run in threads all workers are new.
use Rattle.std.proofs.Common.{ℕ, zero, suc, ◌+◌, List, ◌∷◌, length, map, None, ◌≡◌, refl, ap, sym, ◌∙◌, subst, arith}
use Rattle.std.proofs.lemmas.List.{length-map, length-append}
use Rattle.std.specs.List.{AllByRecursion}
use Rattle.sdl_structure_parts.specs.Structure.{Structure}
use Rattle.sdl_routes.specs.declared.route.TableRow.{TableRow}
use Rattle.sdl_routes.specs.declared.route.Station.{Station}
use Rattle.sdl_transition_behaviour.specs.declared.step.Frame.{Frame}
use Rattle.sdl_transition_behaviour.specs.declared.step.Step.{Step}
use Rattle.sdl_forward_ends.specs.Ends.{WorkerEnds}
use Rattle.sdl_forward_opening.specs.declared.worker.Worker.TheVariants.{Environment, Forwarder}
use Rattle.sdl_forward_opening.specs.Workers.{blocks_from, delaying_from}
use Rattle.sdl_forward_opening.specs.Opens.{AreOpen}
use Rattle.sdl_forward.specs.Forwards.{Forwarding}
use Rattle.sdl_block.specs.Workers.{worker_of}
use Rattle.sdl_run_outcome.specs.Plan.{blocks_in}
use Rattle.sdl_run_outcome.specs.EnvironmentWork.{IsEnvFresh}
use Rattle.sdl_run_driver.specs.declared.driver.Driver.{Driver}
use Rattle.sdl_run_driver.specs.Drivers.{site_of}
use Rattle.sdl_run_driver.specs.Systems.{plan_of}
use Rattle.sdl_run_join.specs.Back.{AreNew}
use Rattle.sdl_run_serial.specs.Starting.{idle_at}
use Rattle.sdl_run_serial.specs.Serial.{HasStarted}
use Rattle.sdl_run_serial.proofs.Fresh.{cores_new, started_count, hops_of, none_held}

module _ {S K I : Type 0} {F : I → Type 0} {g : _} (may : ℕ → Frame → Step → Type 0) (d : Driver S K I F g) (started : HasStarted may d.system) (environment : IsEnvFresh (blocks_in (plan_of d.system)) d.environment)
    (forwarders : d.forwarders.items ≡ map idle_at (delaying_from 0 d.system.checked.channels)) where
  pub are_new : AreNew may (plan_of d.system) (site_of d)
  are_new =
      record {
        blocks = length-map d.system.blocks.items worker_of ∙ started_count may d.system started;
        cores = cores_new may d.system started;
        environment = environment;
        forwarders = ap (map (λ (f : Forwarding). f.hop)) forwarders ∙ hops_of (delaying_from 0 d.system.checked.channels);
        held = subst (AllByRecursion (λ (f : Forwarding). f.held ≡ None)) (sym forwarders) (none_held (delaying_from 0 d.system.checked.channels));
      }

blocks_count : (n k : ℕ) → length (blocks_from n k) ≡ k
blocks_count n zero = refl
blocks_count n (suc k) = (let a = blocks_count (n + 1) k in omega (arith, a))

-- there are ends for each block, the environment, and each forwarder
pub ends_count : (s : Structure) (rows : List TableRow) (all : List WorkerEnds) (shelf : List (Station × ℕ)) (fs : List Forwarding) → AreOpen s rows all shelf → fs ≡ map idle_at (delaying_from 0 s.channels)
    → length all ≡ length s.blocks + (length fs + 1)
ends_count s rows all shelf fs opened are =
    let a = opened.number in
    let b = length-append (blocks_from 0 (length s.blocks)) (Environment ∷ map Forwarder (delaying_from 0 s.channels)) in
    let c = blocks_count 0 (length s.blocks) in
    let d = length-map (delaying_from 0 s.channels) Forwarder in
    let e = length-map (delaying_from 0 s.channels) idle_at in
    let f = ap length are in
    omega (arith, a, b, c, d, e, f)
