-- The driver of one thread: what it has in hand between two steps, and what each step does to that.
use Rattle.std.specs.Prelude.{◌≡◌, ◌≢◌, ℕ, List, [], ◌∷◌, ◌++◌, None, Some, map, length, slice_get, slice_set, if◌then◌else◌}
use Rattle.std.specs.Option.{option_to_list}
use Rattle.std.specs.List.{AllByRecursion}
use Rattle.sdl_signal.specs.declared.values.Item.{Item}
use Rattle.sdl_routes.specs.declared.route.Hop.{Hop}
use Rattle.sdl_routes.specs.declared.route.Station.{Station}
use Rattle.sdl_routes.specs.declared.route.Station.TheVariants.{Line, Outlet}
use Rattle.sdl_transition_behaviour.specs.declared.step.Frame.{Frame}
use Rattle.sdl_transition_behaviour.specs.declared.step.Step.{Step}
use Rattle.sdl_instances.specs.Machine.{State}
use Rattle.sdl_instances.specs.Run.{arrived, sent}
use Rattle.sdl_instances.specs.Core.{Core, IsSound, signals_of, sets_of}
use Rattle.sdl_forward.specs.Boards.{same_hop, waiting, IsBoardOf}
use Rattle.sdl_forward.specs.declared.forwarder.Forwarded.{Forwarded}
use Rattle.sdl_forward.specs.Forwards.{Forwarding}
use Rattle.sdl_forward.specs.Forwards as hands
use Rattle.sdl_block_hand.specs.declared.hand.Stepped.{Stepped}
use Rattle.sdl_forward_opening.specs.declared.worker.Worker.{Worker}
use Rattle.sdl_forward_opening.specs.declared.worker.Worker.TheVariants.{Block, Environment, Forwarder}
use Rattle.sdl_run_outcome.specs.Stations.{IsAgent}
use Rattle.sdl_run_outcome.specs.Books.{Books, InOrder, standing}
use Rattle.sdl_run_outcome.specs.Plan.{Plan, blocks_in, lines_of, system_at, ways_of, MayTravel}
use Rattle.sdl_block_hand.specs.Work.{Working, StepsAs, IsAtRest}
use Rattle.sdl_run_outcome.specs.EnvironmentWork.{EnvWorking, env_sent, env_origins, AreCounted, ComesIn, IsEnvFresh, IsEnvSound, EnvStepsAs}
use Rattle.sdl_run_outcome.specs.Outcome.{WorkerHand, Outcome}

-- the blocks at work, the environment, the forwarders, and the board
pub record Site : Type 0 where
  pub blocks : List Working
  pub environment : EnvWorking
  pub forwarders : List Forwarding
  pub board : List (Station × List Item)

-- what an agent has: a block by f, and the environment this; nothing for a forwarder
abbrev pub of_agent : (Working → List Item) → List Item → List Working → Worker → List Item
of_agent f env ws (Block b) = elim (slice_get ws b.0) [ None ↦ [] | Some w ↦ f w ]
of_agent f env ws Environment = env
of_agent f env ws (Forwarder h) = []

-- what the forwarder of the path holds
abbrev pub held_at : List Forwarding → Hop → List Item
held_at [] h = []
held_at (f ∷ fs) h = if same_hop f.hop h then option_to_list f.held else held_at fs h

abbrev pub kept_by : Site → Worker → List Item
kept_by site (Block b) = of_agent (λ w. option_to_list w.kept) [] site.blocks (Block b)
kept_by site Environment = []
kept_by site (Forwarder h) = held_at site.forwarders h

-- the books between two steps
abbrev pub site_books : Site → Books
site_books site =
    record {
      sent = of_agent (λ w. sent w.core.log) (env_sent site.environment.put) site.blocks;
      arrived = of_agent (λ w. arrived w.core.log) site.environment.received site.blocks;
      kept = kept_by site;
      outgoing = of_agent (λ w. w.outgoing) site.environment.outgoing site.blocks;
      rest = waiting site.board;
    }

abbrev pub block_hand : Working → WorkerHand
block_hand w = record { kept = w.kept; outgoing = w.outgoing }

abbrev pub env_hand : EnvWorking → WorkerHand
env_hand w = record { kept = None; outgoing = w.outgoing }

abbrev pub forwarder_hand : Forwarding → WorkerHand
forwarder_hand f = record { kept = f.held; outgoing = [] }

-- what a run leaves that stops here
abbrev pub outcome_of : Site → Outcome
outcome_of site =
    record {
      logs = map (λ w. w.core.log) site.blocks;
      env_put = site.environment.put;
      env_received = site.environment.received;
      hands = map block_hand site.blocks ++ env_hand site.environment ∷ map forwarder_hand site.forwarders;
      rests = site.board;
    }

-- and the states in which its blocks stop
abbrev pub finals_of : Site → List State
finals_of site = map (λ w. w.core.state) site.blocks

-- a round went by in which no worker could do anything
pub record IsIdle (site : Site) : Type 0 where
  pub blocks : (n : ℕ) (w : Working) → slice_get site.blocks n ≡ Some w → IsAtRest w site.board
  pub forwarders : (k : ℕ) (f : Forwarding) → slice_get site.forwarders k ≡ Some f → (f.held ≡ None) × (waiting site.board (Line f.hop) ≡ [])
  pub ended : site.environment.ended ≢ None
  pub outgoing : site.environment.outgoing ≡ []
  pub outlet : waiting site.board Outlet ≡ []

module _ (may : ℕ → Frame → Step → Type 0) (plan : Plan) where
  -- the core of block n
  pub record IsCoreAt (n : ℕ) (c : Core) : Type 0 where
    pub block : c.block ≡ record { 0 = n }
    pub signals : c.signals ≡ signals_of plan.structure
    pub sets : c.sets ≡ sets_of plan.structure
    pub budget : c.budget ≡ plan.budget
    pub sound : IsSound may (system_at plan n) c

  -- What holds between two steps: each block is sound, and so is the environment, whose outputs are numbered and come
  -- in; each path has its forwarder; the routes are in order, and what is on its way may travel.
  pub record IsAtWork (site : Site) : Type 0 where
    pub blocks : length site.blocks ≡ blocks_in plan
    pub cores : (n : ℕ) (w : Working) → slice_get site.blocks n ≡ Some w → IsCoreAt n w.core
    pub environment : IsEnvSound plan.structure plan.routes (blocks_in plan) site.environment
    pub counted : AreCounted (blocks_in plan) 0 (env_origins site.environment.put)
    pub coming : AllByRecursion (ComesIn plan.routes) (env_sent site.environment.put)
    pub forwarders : map (λ f. f.hop) site.forwarders ≡ lines_of plan
    pub board : IsBoardOf plan.routes site.board
    pub order : InOrder (ways_of plan) (site_books site)
    pub waiting_legal : (s : Station) → AllByRecursion (MayTravel plan) (standing (site_books site) s)
    pub outgoing_legal : (w : Worker) → IsAgent w → AllByRecursion (MayTravel plan) ((site_books site).outgoing w)

  -- at the start no event has happened, nothing was read, nothing is held, and every queue is empty
  pub record IsFresh (site : Site) : Type 0 where
    pub blocks : length site.blocks ≡ blocks_in plan
    pub cores : (n : ℕ) (w : Working) → slice_get site.blocks n ≡ Some w → IsCoreAt n w.core × (w.core.log ≡ []) × (w.kept ≡ None) × (w.outgoing ≡ [])
    pub environment : IsEnvFresh (blocks_in plan) site.environment
    pub forwarders : map (λ f. f.hop) site.forwarders ≡ lines_of plan
    pub held : AllByRecursion (λ (f : Forwarding). f.held ≡ None) site.forwarders
    pub board : IsBoardOf plan.routes site.board
    pub empty : (s : Station) → waiting site.board s ≡ []

  -- block n makes a step
  pub record BlockSteps (n : ℕ) (answer : Stepped) (old new : Site) : Type 0 where
    pub was : Working
    pub is : Working
    pub before : slice_get old.blocks n ≡ Some was
    pub step : StepsAs may (system_at plan n) was old.board answer is new.board
    pub after : new.blocks ≡ slice_set old.blocks n is
    pub environment : new.environment ≡ old.environment
    pub forwarders : new.forwarders ≡ old.forwarders

-- forwarder k makes a step
pub record ForwarderSteps (plan : Plan) (k : ℕ) (answer : Forwarded) (old new : Site) : Type 0 where
  pub was : Forwarding
  pub is : Forwarding
  pub before : slice_get old.forwarders k ≡ Some was
  pub step : hands.Forwards plan.routes was old.board answer is new.board
  pub board : IsBoardOf plan.routes new.board
  pub after : new.forwarders ≡ slice_set old.forwarders k is
  pub blocks : new.blocks ≡ old.blocks
  pub environment : new.environment ≡ old.environment

-- the environment makes a step
pub record EnvironmentSteps (plan : Plan) (answer : Stepped) (old new : Site) : Type 0 where
  pub step : EnvStepsAs plan.structure plan.routes (blocks_in plan) old.environment old.board answer new.environment new.board
  pub board : IsBoardOf plan.routes new.board
  pub blocks : new.blocks ≡ old.blocks
  pub forwarders : new.forwarders ≡ old.forwarders
