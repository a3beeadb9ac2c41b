-- What a contract sees of a driver: its site, and what its steps do there.
use Rattle.std.specs.Prelude.{◌≡◌, ◌≢◌, ℕ, ◌+◌, ◌<◌, Bool, true, false, List, [], map, length, slice_get, Option, Some, None, All}
use Rattle.std.specs.List.Sorted.{IsNonDecreasingBy}
use Rattle.sdl_routes.specs.declared.route.Station.{Station}
use Rattle.sdl_routes.specs.declared.route.Station.TheVariants.{Line, Outlet}
use Rattle.sdl_queue.specs.declared.rest.Rest.{Rest}
use Rattle.sdl_queue.specs.Rest.{left_in}
use Rattle.sdl_transition_behaviour.specs.declared.step.Frame.{Frame}
use Rattle.sdl_transition_behaviour.specs.declared.step.Step.{Step}
use Rattle.sdl_instances.specs.CoreOf.{CanFire}
use Rattle.sdl_signal.specs.declared.values.Pid.{Pid}
use Rattle.sdl_instances.specs.Run.{turns}
use Rattle.sdl_instances.specs.Core.{IsReady}
use Rattle.sdl_forward.specs.Boards.{waiting}
use Rattle.sdl_forward.specs.Forwards.{Forwarding}
use Rattle.sdl_forward.specs.declared.forwarder.Forwarded.{Forwarded}
use Rattle.sdl_forward.specs.declared.forwarder.Forwarded.TheVariants as forwarded
use Rattle.sdl_block_hand.specs.declared.hand.Stepped.{Stepped}
use Rattle.sdl_block_hand.specs.declared.hand.Stepped.TheVariants.{Did, Idle, Memory}
use Rattle.sdl_block_hand.specs.Work.{Working, IsAtRest}
use Rattle.sdl_block.specs.declared.worker.BlockWorker.{BlockWorker}
use Rattle.sdl_block.specs.Workers.{worker_of, behaviours_of}
use Rattle.sdl_run_driver.specs.declared.driver.Driver.{Driver}
use Rattle.sdl_run_driver.specs.Systems.{plan_of}
use Rattle.sdl_run_driver.specs.declared.driver.Round.{Round}
use Rattle.sdl_run_driver.specs.declared.driver.Round.TheVariants as round
use Rattle.sdl_run_outcome.specs.Plan.{Plan, IsPlan, blocks_in, workers_of}
use Rattle.sdl_run_outcome.specs.EnvironmentWork.{EnvWorking, HasReadSoFar, HasWrittenSoFar}
use Rattle.sdl_run_order.specs.Driver.{Site, IsAtWork, IsIdle}
use Rattle.sdl_run_order.specs.Measure.{work_left}

abbrev pub site_of : {S K I : Type 0} {F : I → Type 0} {g : _} → Driver S K I F g → Site
site_of d = record { blocks = map worker_of d.system.blocks.items; environment = d.environment; forwarders = d.forwarders.items; board = d.board }

-- What holds between two steps of workers at this site, whose blocks are these.
pub record IsBetweenSteps {S K I : Type 0} {F : I → Type 0} {g : _} (may : ℕ → Frame → Step → Type 0) (carried : Plan) (site : Site) (blocks : List (BlockWorker S K I F g)) : Type 0 where
  pub plan : IsPlan carried
  pub work : IsAtWork may carried site
  pub fire : All (λ w. CanFire may (behaviours_of w)) blocks

-- What holds of a driver between two steps.
abbrev pub IsDriving : {S K I : Type 0} {F : I → Type 0} {g : _} → (ℕ → Frame → Step → Type 0) → Driver S K I F g → Type 0
IsDriving may d = IsBetweenSteps may (plan_of d.system) (site_of d) d.system.blocks.items

-- worker n could do nothing
pub record IsIdleAt (site : Site) (n : ℕ) : Type 0 where
  pub block : (w : Working) → slice_get site.blocks n ≡ Some w → IsAtRest w site.board
  pub environment : n ≡ length site.blocks → (site.environment.ended ≢ None) × (site.environment.outgoing ≡ []) × (waiting site.board Outlet ≡ [])
  pub forwarder : (k : ℕ) (f : Forwarding) → n ≡ length site.blocks + 1 + k → slice_get site.forwarders k ≡ Some f → (f.held ≡ None) × (waiting site.board (Line f.hop) ≡ [])

-- the forwarders stand by the numbers of their channels, the lowest first
abbrev pub AreByChannel : List Forwarding → Type 0
AreByChannel = IsNonDecreasingBy (λ f. f.hop.channel.0)

-- no forwarder holds an item
abbrev pub AllFree : Site → Type 0
AllFree site = (k : ℕ) (f : Forwarding) → slice_get site.forwarders k ≡ Some f → f.held ≡ None

-- what a step of worker n did, by its answer: less is left to do, or nothing changed
abbrev pub StepAnswers : Plan → ℕ → Stepped → Site → Site → Type 0
StepAnswers plan n Did old new = work_left plan new < work_left plan old
StepAnswers plan n Idle old new = (new ≡ old) × IsIdleAt old n
StepAnswers plan n Memory old new = Unit {0}

-- what was read so far goes over into what is read then, whatever was in the input at the start
abbrev pub ReadsOver : Plan → EnvWorking → Option (List ℕ) → EnvWorking → Option (List ℕ) → Type 0
ReadsOver plan old before new after =
    (start : Option (List ℕ)) → HasReadSoFar plan.structure plan.routes (blocks_in plan) start before old → HasReadSoFar plan.structure plan.routes (blocks_in plan) start after new

-- and what was written so far into what is written then
abbrev pub WritesOver : Plan → EnvWorking → Option (List ℕ) → EnvWorking → Option (List ℕ) → Type 0
WritesOver plan old before new after =
    (start : Option (List ℕ)) → HasWrittenSoFar plan.structure plan.routes (blocks_in plan) start before old → HasWrittenSoFar plan.structure plan.routes (blocks_in plan) start after new

-- what a step of a forwarder counts as
abbrev pub stepped_by : Forwarded → Stepped
stepped_by forwarded.Moved = Did
stepped_by forwarded.Idle = Idle
stepped_by forwarded.Held = Memory

-- what a round of all workers did
abbrev pub RoundAnswers : Plan → Round → Site → Site → Type 0
RoundAnswers plan round.Did old new = work_left plan new < work_left plan old
RoundAnswers plan round.Idle old new = IsIdle new
RoundAnswers plan (round.Refused w) old new = w < length (workers_of plan)

-- how far a round has gone that began at `start`: the workers below n have made their steps, and less is left to do, or nothing
-- could be done
pub record HasGone (plan : Plan) (start now : Site) (did : Bool) (n : ℕ) : Type 0 where
  pub less : did ≡ true → work_left plan now < work_left plan start
  pub idle : did ≡ false → (now ≡ start) × ((k : ℕ) → k < n → IsIdleAt start k)

-- no block has used its budget
abbrev pub NoneSpent : Plan → List Working → Type 0
NoneSpent plan ws = (n : ℕ) (w : Working) → slice_get ws n ≡ Some w → turns w.core.log ≡ plan.budget → ⊥

-- block b has, and none before it
abbrev pub FirstSpent : Plan → List Working → ℕ → Type 0
FirstSpent plan ws b =
    ((w : Working) × (slice_get ws b ≡ Some w) × (turns w.core.log ≡ plan.budget))
    × ((a : ℕ) (v : Working) → a < b → slice_get ws a ≡ Some v → turns v.core.log ≡ plan.budget → ⊥)

-- no instance of the block is ready
abbrev pub AreDone : Working → Type 0
AreDone w = (p : Pid) → IsReady p w.core.state → ⊥

abbrev pub AllDone : List Working → Type 0
AllDone ws = (n : ℕ) (w : Working) → slice_get ws n ≡ Some w → AreDone w

abbrev pub SomeUndone : List Working → Type 0
SomeUndone ws = (n : ℕ) × (w : Working) × (slice_get ws n ≡ Some w) × (AreDone w → ⊥)

-- nothing is left at any station of the list, or something is at one of them
abbrev pub AllLeft : List (Station × Rest) → Type 0
AllLeft rests = (n : ℕ) (r : Station × Rest) → slice_get rests n ≡ Some r → left_in r.1 ≡ []

abbrev pub SomeLeft : List (Station × Rest) → Type 0
SomeLeft rests = (n : ℕ) × (r : Station × Rest) × (slice_get rests n ≡ Some r) × (left_in r.1 ≡ [] → ⊥)
