-- What is known when all threads are joined: of each worker what it put and took, and of each queue what is left. (This project's own.)
use Rattle.std.specs.Prelude.{◌≡◌, ℕ, List, ◌++◌, Option, Some, length, map, slice_get}
use Rattle.std.specs.Option.{option_to_list}
use Rattle.std.specs.List.{AllByRecursion}
use Rattle.sdl_signal.specs.declared.values.Item.{Item}
use Rattle.sdl_routes.specs.declared.route.Station.{Station}
use Rattle.sdl_transition_behaviour.specs.declared.step.Frame.{Frame}
use Rattle.sdl_transition_behaviour.specs.declared.step.Step.{Step}
use Rattle.sdl_queue.specs.Ends.{Account, items_of}
use Rattle.sdl_forward_ends.specs.Ends.{WorkerEnds, put_at, taken_by}
use Rattle.sdl_forward_opening.specs.declared.worker.Worker.{Worker}
use Rattle.sdl_forward_opening.specs.declared.worker.Worker.TheVariants.{Block, Environment, Forwarder}
use Rattle.sdl_forward_opening.specs.Workers.{Ways, IsAgent}
use Rattle.sdl_forward.specs.Boards.{waiting, IsBoardOf}
use Rattle.sdl_forward.specs.Forwards.{Forwarding}
use Rattle.sdl_block_hand.specs.Work.{Working}
use Rattle.sdl_run_outcome.specs.Steps.{bound_for}
use Rattle.sdl_run_outcome.specs.Books.{Books}
use Rattle.sdl_run_outcome.specs.Plan.{Plan, MayTravel, blocks_in, lines_of, ways_of}
use Rattle.sdl_run_outcome.specs.EnvironmentWork.{IsEnvSound, AreCounted, ComesIn, GoesOut, env_sent, env_origins}
use Rattle.sdl_run_order.specs.Driver.{Site, site_books, kept_by, IsCoreAt}
use Rattle.sdl_run_join.specs.Lanes.{IsLane}

-- A worker put all that it was given but what is pending, in order, each item where the worker brings it.
pub record HasPut (t : Ways) (w : Worker) (given pending : List Item) (e : WorkerEnds) : Type 0 where
  pub put : List Item
  pub whole : put ++ pending ≡ given
  pub each : (s : Station) → put_at e s ≡ bound_for t w s put

-- what a worker has to put: a forwarder what it took, another what it sent
abbrev pub given : (Worker → WorkerEnds) → Books → Worker → List Item
given ends b (Block n) = b.sent (Block n)
given ends b Environment = b.sent Environment
given ends b (Forwarder h) = taken_by (ends (Forwarder h))

-- what of it is not yet put
abbrev pub pending : Books → Worker → List Item
pending b (Block n) = b.outgoing (Block n)
pending b Environment = b.outgoing Environment
pending b (Forwarder h) = b.kept (Forwarder h)

-- what the joined threads and the queues put together again say of the books
pub record Joined (t : Ways) (ends : Worker → WorkerEnds) (accounts : Station → Account) (b : Books) : Type 0 where
  pub lanes : (s : Station) → IsLane ends s (accounts s)
  pub rests : (s : Station) → b.rest s ≡ items_of (accounts s).left
  pub went : (w : Worker) → HasPut t w (given ends b w) (pending b w) (ends w)
  -- an agent lets in what it takes, in order, and keeps the rest of it
  pub came : (w : Worker) → IsAgent w → b.arrived w ++ b.kept w ≡ taken_by (ends w)
  -- it sends along routes that start at it
  pub starts : (w : Worker) → IsAgent w → AllByRecursion (λ (i : Item). t.start i.route.0 ≡ w) (b.sent w)

-- what a worker keeps; the environment keeps what it took and can't let in
abbrev pub kept_with : Site → Option Item → Worker → List Item
kept_with site astray (Block b) = kept_by site (Block b)
kept_with site astray Environment = option_to_list astray
kept_with site astray (Forwarder h) = kept_by site (Forwarder h)

-- What stands when all threads are joined and all queues put together again: each worker is as its steps keep it, with its ends,
-- and each queue has its account.
pub record IsJoined (may : ℕ → Frame → Step → Type 0) (plan : Plan) (site : Site) (astray : Option Item) (ends : Worker → WorkerEnds) (accounts : Station → Account) : Type 0 where
  pub blocks : length site.blocks ≡ blocks_in plan
  pub cores : (n : ℕ) (w : Working) → slice_get site.blocks n ≡ Some w → IsCoreAt may plan n w.core
  pub environment : IsEnvSound plan.structure plan.routes (blocks_in plan) site.environment
  pub counted : AreCounted (blocks_in plan) 0 (env_origins site.environment.put)
  pub coming : AllByRecursion (ComesIn plan.routes) (env_sent site.environment.put)
  pub forwarders : map (λ (f : Forwarding). f.hop) site.forwarders ≡ lines_of plan
  pub board : IsBoardOf plan.routes site.board
  pub lanes : (s : Station) → IsLane ends s (accounts s)
  pub rests : (s : Station) → waiting site.board s ≡ items_of (accounts s).left
  pub went : (w : Worker) → HasPut (ways_of plan) w (given ends (site_books site) w) (pending (site_books site) w) (ends w)
  pub came : (w : Worker) → IsAgent w → (site_books site).arrived w ++ kept_with site astray w ≡ taken_by (ends w)
  -- what was sent may travel, and what the environment can't let in may not, or not to it
  pub legal : (w : Worker) → IsAgent w → AllByRecursion (MayTravel plan) ((site_books site).sent w)
  pub lost : (i : Item) → astray ≡ Some i → MayTravel plan i → GoesOut plan.routes i → ⊥
