-- Sets of agents, as a design has them. (This project's own.)
use Rattle.std.specs.Prelude.{◌≡◌}
use Rattle.sdl_graph_binding.specs.declared.agent_sets.AgentSet.{AgentSet}
use Rattle.sdl_graph_binding.specs.declared.sets.SetDesign.{SetDesign}

-- the design says of the set what the agents say
pub record IsDesignOf (set : AgentSet) (design : SetDesign) : Type 0 where
  pub name : design.name ≡ set.name
  pub states : design.states.now ≡ set.states.items
  pub variables : design.variables ≡ set.variables
  pub saves : design.saves.now ≡ set.saves.items
  pub transitions : design.transitions ≡ set.transitions
