-- The routes found so far, where memory for some of them may have been refused.
use Rattle.std.specs.Prelude.{◌≡◌, ℕ, ◌+◌, ◌≤◌, false, List, [], ◌∷◌, ◌++◌, length}
use Rattle.sdl_structure_parts.specs.Structure.{Structure}
use Rattle.sdl_routes.specs.declared.route.TableRow.{TableRow}
use Rattle.sdl_routes.specs.declared.search.Collected.{Collected}
use Rattle.sdl_routes.specs.Found.{HasFound}

-- all of the list are counted, and kept where nothing was refused
pub record IsCollected (found : List TableRow) (c : Collected) : Type 0 where
  pub count : c.count ≡ length found
  pub kept : c.refused ≡ false → c.rows.items ≡ found

-- one more is counted, and kept where nothing was refused
pub record AddsRoute (old : Collected) (row : TableRow) (new : Collected) : Type 0 where
  pub count : new.count ≡ old.count + 1
  pub kept : new.refused ≡ false → (old.refused ≡ false) × (new.rows.items ≡ old.rows.items ++ row ∷ [])

-- what is collected are the routes before the bound
pub record HasCollected (s : Structure) (bound : List ℕ) (c : Collected) : Type 0 where
  pub found : List TableRow
  pub before : HasFound s bound found
  pub few : length found ≤ 4096
  pub collected : IsCollected found c
