-- What a run leaves, and the headline: what holds of every run that has ended, however its workers took turns.
use Rattle.std.specs.Prelude.{◌≡◌, ℕ, zero, suc, ◌+◌, ◌<◌, List, [], ◌∷◌, ◌++◌, Option, Some, cond, length, map, slice_get}
use Rattle.std.specs.Option.{option_to_list}
use Rattle.std.specs.List.{flat_map, AllByRecursion}
use Rattle.sdl_signal.specs.declared.values.Item.{Item}
use Rattle.sdl_signal.specs.declared.values.Origin.{Origin}
use Rattle.sdl_routes.specs.declared.route.Station.{Station}
use Rattle.sdl_transition_behaviour.specs.declared.step.Frame.{Frame}
use Rattle.sdl_transition_behaviour.specs.declared.step.Step.{Step}
use Rattle.sdl_instances_log.specs.declared.event.Event.{Event}
use Rattle.sdl_instances.specs.Machine.{State}
use Rattle.sdl_instances.specs.Run.{IsRun, arrived, sent, origins}
use Rattle.sdl_forward.specs.Boards.{waiting, IsBoardOf}
use Rattle.sdl_forward_opening.specs.declared.worker.Worker.{Worker}
use Rattle.sdl_run_outcome.specs.declared.environment_output.EnvOut.{EnvOut}
use Rattle.sdl_run_outcome.specs.EnvironmentWork.{env_sent, env_origins, AreCounted}
use Rattle.sdl_run_outcome.specs.Stations.{Among, same_worker}
use Rattle.sdl_run_outcome.specs.Books.{Books, NoOther, outs, came, left, standing}
use Rattle.sdl_run_outcome.specs.Causes.{IsCause}
use Rattle.sdl_run_outcome.specs.Plan.{Plan, blocks_in, system_at, MayTravel, workers_of, ways_of}

-- what a worker still holds: an item that it took, and the items that it has yet to put
pub record WorkerHand : Type 0 where
  pub kept : Option Item
  pub outgoing : List Item

-- What a run leaves: the log of each block; the outputs of the environment, and what it received; what each worker holds,
-- in the order of the workers; and what rests at each station.
pub record Outcome : Type 0 where
  pub logs : List (List Event)
  pub env_put : List EnvOut
  pub env_received : List Item
  pub hands : List WorkerHand
  pub rests : List (Station × List Item)

-- what stands for worker w in a list in the order of the workers; nothing where there is none
abbrev pub of_worker : Worker → List Worker → List (List Item) → List Item
of_worker w [] xss = []
of_worker w (v ∷ vs) [] = []
of_worker w (v ∷ vs) (xs ∷ xss) = cond (same_worker v w) xs (of_worker w vs xss)

-- the blocks come first among the workers, then the environment
abbrev pub books_of : Plan → Outcome → Books
books_of plan o =
    record {
      sent = λ w. of_worker w (workers_of plan) (map sent o.logs ++ env_sent o.env_put ∷ []);
      arrived = λ w. of_worker w (workers_of plan) (map arrived o.logs ++ o.env_received ∷ []);
      kept = λ w. of_worker w (workers_of plan) (map (λ (h : WorkerHand). option_to_list h.kept) o.hands);
      outgoing = λ w. of_worker w (workers_of plan) (map (λ (h : WorkerHand). h.outgoing) o.hands);
      rest = λ s. waiting o.rests s;
    }

-- a log for each block, a hand for each worker, and a rest for each station of some route, once and in order
pub record IsComplete (plan : Plan) (o : Outcome) : Type 0 where
  pub logs : length o.logs ≡ blocks_in plan
  pub hands : length o.hands ≡ length (workers_of plan)
  pub rests : IsBoardOf plan.routes o.rests

-- the log of a block; nothing where there is none
abbrev pub log_at : List (List Event) → ℕ → List Event
log_at [] n = []
log_at (log ∷ logs) zero = log
log_at (log ∷ logs) (suc n) = log_at logs n

-- every output of the run, with or without a route
abbrev pub all_origins : Outcome → List Origin
all_origins o = flat_map origins o.logs ++ env_origins o.env_put

module _ (may : ℕ → Frame → Step → Type 0) (plan : Plan) where
  -- the logs are runs of the blocks n, n + 1, n + 2 and so on, which end in these states
  abbrev pub AreRunsFrom : ℕ → List (List Event) → List State → Type 0
  AreRunsFrom n [] [] = Unit {0}
  AreRunsFrom n (log ∷ logs) (s ∷ finals) =
      IsRun may (system_at plan n) (record { 0 = n }) log s × AreRunsFrom (n + 1) logs finals
  AreRunsFrom n (log ∷ logs) [] = ⊥
  AreRunsFrom n [] (s ∷ finals) = ⊥

-- each block's log is a run of its machine, and the environment's outputs are numbered as a block's are
pub record IsLawful (may : ℕ → Frame → Step → Type 0) (plan : Plan) (o : Outcome) (finals : List State) : Type 0 where
  pub runs : AreRunsFrom may plan 0 o.logs finals
  pub environment : AreCounted (blocks_in plan) 0 (env_origins o.env_put)

-- When a run has ended ..
pub record Headline (may : ℕ → Frame → Step → Type 0) (plan : Plan) (o : Outcome) (finals : List State) : Type 0 where
  -- .. the signals output along each route are, in order, those that arrived at its end, then those still in its channels ..
  pub in_order : (r : ℕ) → r < length plan.routes → outs (ways_of plan) (books_of plan o) r ≡ came (ways_of plan) (books_of plan o) r ++ left (ways_of plan) (books_of plan o) r
  -- .. each once ..
  pub once : (j k : ℕ) (x : Origin) → slice_get (all_origins o) j ≡ Some x → slice_get (all_origins o) k ≡ Some x → j ≡ k
  -- .. each that arrived entered a living instance that its output permits, or was discarded because there was none ..
  pub lawful : IsLawful may plan o finals
  -- .. no other signal entered any port ..
  pub no_other : NoOther (ways_of plan) (books_of plan o)
  -- .. and no signal is among its own causes.
  pub no_cycle : (i : Item) → IsCause (log_at o.logs) i i → ⊥

-- each item that is left is one that may travel, and lies at a station of its route
abbrev pub LeftsAreLegal : Plan → Outcome → Type 0
LeftsAreLegal plan o =
    (s : Station) → AllByRecursion (λ (i : Item). MayTravel plan i × Among s ((ways_of plan).stations i.route.0)) (standing (books_of plan o) s)
