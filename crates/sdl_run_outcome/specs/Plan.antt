-- What does not change in a run of a whole system: its structure, its routes, the rules of each block, and the budget.
use Rattle.std.specs.Prelude.{ℕ, List, [], length, slice_get, unwrap_or}
use Rattle.sdl_signal.specs.declared.values.Item.{Item}
use Rattle.sdl_structure_parts.specs.Structure.{Structure, IsStructure}
use Rattle.sdl_routes.specs.declared.route.Hop.{Hop}
use Rattle.sdl_routes.specs.declared.route.TableRow.{TableRow}
use Rattle.sdl_routes.specs.Routes.{AreRoutesOf}
use Rattle.sdl_routes.specs.Table.{IsTable}
use Rattle.sdl_transition.specs.Rules.{Rules}
use Rattle.sdl_instances.specs.Legal.{IsLegal}
use Rattle.sdl_instances.specs.Machine.{System}
use Rattle.sdl_instances.specs.Core.{signals_of, sets_of}
use Rattle.sdl_forward_opening.specs.declared.worker.Worker.{Worker}
use Rattle.sdl_forward_opening.specs.Workers.{workers_in, ways_in}
pub use Rattle.sdl_forward_opening.specs.Workers.{blocks_from, delaying_path, delaying_from, worker_of_set, starter, finisher}
use Rattle.sdl_run_outcome.specs.Stations.{Ways}

pub record Plan : Type 0 where
  pub structure : Structure
  pub routes : List TableRow
  pub rules : List (List Rules)
  pub budget : ℕ

-- the number of blocks, which is the number of the environment's worker
abbrev pub blocks_in : Plan → ℕ
blocks_in plan = length plan.structure.blocks

-- the rules of a block
abbrev pub rules_at : Plan → ℕ → List Rules
rules_at plan n = unwrap_or (slice_get plan.rules n) []

-- the system as a block's machine reads it
abbrev pub system_at : Plan → ℕ → System
system_at plan n =
    record {
      signals = signals_of plan.structure;
      sets = sets_of plan.structure;
      routes = plan.routes;
      rules = rules_at plan n;
    }

-- the item is one that may travel
abbrev pub MayTravel : Plan → Item → Type 0
MayTravel plan i = IsLegal (signals_of plan.structure) (length (sets_of plan.structure)) plan.routes i

abbrev pub lines_of : Plan → List Hop
lines_of plan = delaying_from 0 plan.structure.channels

-- the workers in their order: the blocks by number, the environment, the forwarders
abbrev pub workers_of : Plan → List Worker
workers_of plan = workers_in plan.structure

-- the way of each route
abbrev pub ways_of : Plan → Ways
ways_of plan = ways_in plan.structure plan.routes

-- the routes are those of the structure
pub record IsPlan (plan : Plan) : Type 0 where
  pub structure : IsStructure plan.structure
  pub routes : AreRoutesOf plan.structure plan.routes
  pub table : IsTable plan.routes
