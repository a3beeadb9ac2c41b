-- What a walk over one table knows of the file that the table lies in.
use Rattle.std.specs.Prelude.{◌≡◌}
use Rattle.toml.specs.Data.{Members}
use Rattle.toml.specs.View.{table_view}
use Rattle.sdl_listing_file.specs.declared.walk.Walk.{Walk}
use Rattle.sdl_listing_file.specs.Tables.{table_of, IsPlace}

-- the file, and the table where the walk stands
abbrev pub file_of : Walk → Members
file_of w = table_view w.file.now

abbrev pub own : Walk → Members
own w = table_view w.table.now

-- the table stands at the place of the walk
pub record IsHere (w : Walk) : Type 0 where
  pub place : IsPlace (file_of w) w.place
  pub table : table_of (file_of w) w.place ≡ own w
