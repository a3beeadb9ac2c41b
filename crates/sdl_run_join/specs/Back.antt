-- What all workers keep when they come back. (This project's own.)
use Rattle.std.specs.Prelude.{◌≡◌, ℕ, ◌+◌, List, [], Option, Some, None, length, map, slice_get}
use Rattle.std.specs.List.{AllByRecursion}
use Rattle.sdl_signal.specs.declared.values.Item.{Item}
use Rattle.sdl_transition_behaviour.specs.declared.step.Frame.{Frame}
use Rattle.sdl_transition_behaviour.specs.declared.step.Step.{Step}
use Rattle.sdl_forward_ends.specs.Ends.{WorkerEnds}
use Rattle.sdl_forward.specs.Forwards.{Forwarding}
use Rattle.sdl_forward.specs.HandsOn.{IsHandingOn}
use Rattle.sdl_block_hand.specs.Work.{Working}
use Rattle.sdl_block_hand.specs.Apart.{IsPuttingOut}
use Rattle.sdl_run_outcome.specs.Plan.{Plan, blocks_in, lines_of, system_at}
use Rattle.sdl_run_outcome.specs.EnvironmentWork.{IsEnvFresh}
use Rattle.sdl_run_order.specs.Driver.{Site, IsCoreAt}
use Rattle.sdl_run_environment.specs.EnvApart.{IsEnvPuttingOut}

-- Each worker keeps what its steps keep, with its ends. These stand in the order of the workers: the blocks by number, the
-- environment, the forwarders.
pub record HaveComeBack (may : ℕ → Frame → Step → Type 0) (plan : Plan) (site : Site) (astray : Option Item) (now : List WorkerEnds) : Type 0 where
  pub blocks : length site.blocks ≡ blocks_in plan
  pub cores : (n : ℕ) (w : Working) → slice_get site.blocks n ≡ Some w → IsCoreAt may plan n w.core
  pub puts : (n : ℕ) (w : Working) (e : WorkerEnds) → slice_get site.blocks n ≡ Some w → slice_get now n ≡ Some e → IsPuttingOut may (system_at plan n) w e
  pub environment : (e : WorkerEnds) → slice_get now (blocks_in plan) ≡ Some e → IsEnvPuttingOut plan.structure plan.routes (blocks_in plan) site.environment astray e
  pub hops : map (λ (f : Forwarding). f.hop) site.forwarders ≡ lines_of plan
  pub forwarders : (k : ℕ) (f : Forwarding) (e : WorkerEnds) → slice_get site.forwarders k ≡ Some f → slice_get now (blocks_in plan + 1 + k) ≡ Some e → IsHandingOn plan.routes f e

-- The workers before the first step, whatever the board: no event has happened, nothing was read, and nothing is in hand or held.
pub record AreNew (may : ℕ → Frame → Step → Type 0) (plan : Plan) (site : Site) : Type 0 where
  pub blocks : length site.blocks ≡ blocks_in plan
  pub cores : (n : ℕ) (w : Working) → slice_get site.blocks n ≡ Some w → IsCoreAt may plan n w.core × (w.core.log ≡ []) × (w.kept ≡ None) × (w.outgoing ≡ [])
  pub environment : IsEnvFresh (blocks_in plan) site.environment
  pub forwarders : map (λ (f : Forwarding). f.hop) site.forwarders ≡ lines_of plan
  pub held : AllByRecursion (λ (f : Forwarding). f.held ≡ None) site.forwarders
