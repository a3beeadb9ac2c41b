-- How a run ends. (This project's own.)
use Rattle.std.specs.Prelude.{◌≡◌, ℕ, ◌<◌, List, [], None, Some, slice_get, length}
use Rattle.std.specs.List.{AllByRecursion}
use Rattle.sdl_signal.specs.declared.ids.BlockId.{BlockId}
use Rattle.sdl_signal.specs.declared.values.Pid.{Pid}
use Rattle.sdl_routes.specs.declared.route.Hop.{Hop}
use Rattle.sdl_routes.specs.declared.route.Station.{Station}
use Rattle.sdl_routes.specs.declared.route.Station.TheVariants as station
use Rattle.sdl_instances.specs.Machine.{State}
use Rattle.sdl_instances.specs.Run.{turns}
use Rattle.sdl_instances.specs.Core.{IsReady}
use Rattle.sdl_forward.specs.Boards.{waiting}
use Rattle.sdl_run_outcome.specs.declared.end.RunEnd.{RunEnd}
use Rattle.sdl_run_outcome.specs.declared.end.RunEnd.TheVariants as run_end
use Rattle.sdl_run_outcome.specs.Plan.{Plan, blocks_in, workers_of}
use Rattle.sdl_run_outcome.specs.Outcome.{Outcome, WorkerHand, log_at}

-- the hand is empty
abbrev pub IsFree : WorkerHand → Type 0
IsFree h = (h.kept ≡ None) × (h.outgoing ≡ [])

module _ (plan : Plan) (o : Outcome) (finals : List State) where
  -- nothing rests at the station
  abbrev pub IsEmpty : Station → Type 0
  IsEmpty s = waiting o.rests s ≡ []

  -- the block is settled: each living instance has started, and its state saves all signals of its port
  abbrev pub IsSettled : ℕ → Type 0
  IsSettled b = (s : State) (p : Pid) → slice_get finals b ≡ Some s → IsReady p s → ⊥

  -- the budget of the block is used
  abbrev pub HasUsedBudget : ℕ → Type 0
  HasUsedBudget b = turns (log_at o.logs b) ≡ plan.budget

  -- every rest and hand is empty, every living instance has started, and its state saves all signals of its port
  pub record IsQuiet : Type 0 where
    pub hands : AllByRecursion IsFree o.hands
    pub rests : (s : Station) → IsEmpty s
    pub blocks : (b : ℕ) → b < blocks_in plan → IsSettled b

  -- It is not quiet; b is the least block whose budget is used; every hand, line and the outlet are empty, and each block
  -- whose budget is not used has an empty inlet and is settled.
  pub record IsSpentAt (b : ℕ) : Type 0 where
    pub more : IsQuiet → ⊥
    pub within : b < blocks_in plan
    pub spent : HasUsedBudget b
    pub least : (a : ℕ) → a < b → HasUsedBudget a → ⊥
    pub hands : AllByRecursion IsFree o.hands
    pub lines : (h : Hop) → IsEmpty (station.Line h)
    pub outlet : IsEmpty station.Outlet
    pub others : (a : BlockId) → a.0 < blocks_in plan → turns (log_at o.logs a.0) < plan.budget → IsEmpty (station.Inlet a) × IsSettled a.0

  -- the end is what it says; of a refusal only a worker is named
  abbrev pub EndsAs : RunEnd → Type 0
  EndsAs run_end.Quiet = IsQuiet
  EndsAs (run_end.Spent b) = IsSpentAt b.0
  EndsAs (run_end.Memory w) = w < length (workers_of plan)
