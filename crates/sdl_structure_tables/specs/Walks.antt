-- What a walk over one table knows of the file that the table lies in.
use Rattle.std.specs.Prelude.{◌≡◌, List, Option, Some, map, ℕ}
use Rattle.toml.specs.Data.{Members}
use Rattle.toml.specs.View.{table_view}
use Rattle.arrayvec.specs.ArrayString.{ArrayString}
use Rattle.sdl_structure_tables.specs.declared.walk.Walk.{Walk}
use Rattle.sdl_structure_tables.specs.Tables.{own_version}
use Rattle.sdl_structure_tables.specs.Places.{table_at, IsPlace}

-- the file, and the table where the walk stands
abbrev pub file_of : Walk → Members
file_of w = table_view w.file.now

abbrev pub own : Walk → Members
own w = table_view w.table.now

-- the table stands at the place of the walk
pub record IsHere (w : Walk) : Type 0 where
  pub place : IsPlace (file_of w) w.place
  pub table : table_at (file_of w) w.place ≡ own w
  pub version : w.version ≡ own_version (file_of w)

-- the names that a list of names holds
abbrev pub name_texts : List ArrayString → List (Option (List ℕ))
name_texts names = map (λ n. Some n.bytes) names
