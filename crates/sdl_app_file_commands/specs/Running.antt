-- What a run starts from.
use Rattle.std.specs.Prelude.{◌≤◌, List}
use Rattle.sdl_structure_parts.specs.Structure.{Structure}
use Rattle.sdl_routes.specs.declared.route.TableRow.{TableRow}
use Rattle.sdl_routes.specs.Routes.{AreRoutesOf}

-- the budget of a structure file: from 1 to 1,000,000 transitions of each block
pub record HasBudget (s : Structure) : Type 0 where
  pub least : 1 ≤ s.budget
  pub most : s.budget ≤ 1000000

-- the structure of a file, and its routes
unfoldable pub CanRun : Structure → List TableRow → Type 0
CanRun s routes = HasBudget s × AreRoutesOf s routes
