-- A run as the steps of its workers, one after another, up to the first refusal. (This project's own.)
use Rattle.std.specs.Prelude.{◌≡◌, ◌≢◌, ℕ, zero, suc, ◌+◌, ◌%◌, ◌/◌, ◌⊎◌, List, [], ◌∷◌, ◌++◌, map, length, Option, Some, None}
use Rattle.sdl_transition_behaviour.specs.declared.step.Frame.{Frame}
use Rattle.sdl_transition_behaviour.specs.declared.step.Step.{Step}
use Rattle.sdl_forward.specs.declared.forwarder.Forwarded.{Forwarded}
use Rattle.sdl_block_hand.specs.declared.hand.Stepped.{Stepped}
use Rattle.sdl_block_hand.specs.declared.hand.Stepped.TheVariants.{Memory}
use Rattle.sdl_run_driver.specs.declared.driver.Round.{Round}
use Rattle.sdl_run_driver.specs.declared.driver.Round.TheVariants as round
use Rattle.sdl_run_outcome.specs.Plan.{Plan, blocks_in, workers_of, system_at}
use Rattle.sdl_run_order.specs.Driver.{Site, IsIdle, BlockSteps, EnvironmentSteps, ForwarderSteps}
use Rattle.sdl_block.specs.Picks.{StepsAt}
use Rattle.sdl_run_environment.specs.EnvPicks.{ReadsAt}
use Rattle.sdl_run_driver.specs.Drivers.{stepped_by}

-- Steps are listed as pairs of a worker's number and a pick. These are the workers below n, in order, each at pick 0.
abbrev pub workers_below : ℕ → List (ℕ × ℕ)
workers_below zero = []
workers_below (suc n) = workers_below n ++ (n, 0) ∷ []

-- so many rounds of so many workers, each worker once a round, at pick 0
abbrev pub rounds_of : ℕ → ℕ → List (ℕ × ℕ)
rounds_of workers zero = []
rounds_of workers (suc rounds) = rounds_of workers rounds ++ workers_below workers

-- the worker that was refused memory in a round
abbrev pub refused_in : Round → Option ℕ
refused_in round.Did = None
refused_in round.Idle = None
refused_in (round.Refused w) = Some w

-- the steps that the schedule names: each number modulo the workers names one, and the quotient is its pick
abbrev pub scheduled : Plan → List ℕ → List (ℕ × ℕ)
scheduled plan schedule = map (λ n. (n % length (workers_of plan), n / length (workers_of plan))) schedule

module _ (may : ℕ → Frame → Step → Type 0) (plan : Plan) where
  -- block n makes a step, and chooses by the pick
  abbrev pub BlockStepsAt : ℕ → ℕ → Stepped → Site → Site → Type 0
  BlockStepsAt n pick answer old new = (s : BlockSteps may plan n answer old new) × StepsAt may (system_at plan n) pick s.was.core s.is.core

  -- The worker of this number makes a step at this pick: a block, the environment, or a forwarder, which has nothing to choose.
  abbrev pub WorkerSteps : ℕ → ℕ → Stepped → Site → Site → Type 0
  WorkerSteps n pick answer old new =
      BlockStepsAt n pick answer old new
      ⊎ ((n ≡ blocks_in plan) × EnvironmentSteps plan answer old new × ReadsAt plan.routes pick old.environment new.environment)
      ⊎ ((k : ℕ) × (forwarded : Forwarded) × (n ≡ blocks_in plan + 1 + k) × (answer ≡ stepped_by forwarded) × ForwarderSteps plan k forwarded old new)

  -- These steps are made, in order, up to the first whose worker is refused memory: no step is made after it.
  abbrev pub StepsThrough : List (ℕ × ℕ) → Option ℕ → Site → Site → Type 0
  StepsThrough [] refused old new = (refused ≡ None) × (new ≡ old)
  StepsThrough (s ∷ more) refused old new =
      ((refused ≡ Some s.0) × WorkerSteps s.0 s.1 Memory old new)
      ⊎ ((next : Site) × (answer : Stepped) × (answer ≢ Memory) × WorkerSteps s.0 s.1 answer old next × StepsThrough more refused next new)

  -- all workers make steps, round by round
  abbrev pub Settles : Option ℕ → Site → Site → Type 0
  Settles refused old new = (rounds : ℕ) × StepsThrough (rounds_of (length (workers_of plan)) rounds) refused old new

  -- A run: the workers make the steps of the schedule, each at its pick. So many rounds follow, until no worker could do anything
  -- or one is refused memory.
  pub record Runs (schedule : List ℕ) (refused : Option ℕ) (old new : Site) : Type 0 where
    pub rounds : ℕ
    pub steps : StepsThrough (scheduled plan schedule ++ rounds_of (length (workers_of plan)) rounds) refused old new
    pub idle : refused ≡ None → IsIdle new
