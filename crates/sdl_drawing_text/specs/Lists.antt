-- The texts of lists of signals. (This project's own.)
use Rattle.std.specs.Prelude.{ℕ, ◌+◌, ◌-◌, List, [], ◌++◌, ◌==◌, if◌then◌else◌, length, option_map, unwrap_or, slice_get, flat_map, codes}
use Rattle.std.specs.List.{range_with_len}
use Rattle.sdl_signal.specs.declared.ids.SignalId.{SignalId}
use Rattle.sdl_structure_parts.specs.declared.parts.Side.{Side}
use Rattle.sdl_structure_parts.specs.declared.parts.Side.TheVariants.{Outer, Inner}
use Rattle.sdl_structure_parts.specs.Structure.{Structure}
use Rattle.sdl_app_file_commands.specs.Texts.{signal_text}
use Rattle.sdl_drawing.specs.declared.shapes.ListRow.{ListRow}
use Rattle.sdl_drawing.specs.Shown.{path_signals}
use Rattle.sdl_svg.specs.Elements.{text_front}
use Rattle.sdl_drawing_text.specs.Paths.{finish_side}

-- The signal at a place of a list. The first has a bracket before it, and each other a space. The last has a bracket behind it,
-- and each other a comma.
abbrev pub before_item : ℕ → List ℕ
before_item place = if place == 0 then codes "[" else codes " "

abbrev pub behind_item : List SignalId → ℕ → List ℕ
behind_item signals place = if place + 1 == length signals then codes "]" else codes ","

abbrev pub item_name : Structure → List SignalId → ℕ → List ℕ
item_name s signals place = unwrap_or (option_map (signal_text s) (slice_get signals place)) []

abbrev pub item_text : Structure → List SignalId → ℕ → List ℕ
item_text s signals place = before_item place ++ item_name s signals place ++ behind_item signals place

-- the signals from one place up to another
abbrev pub items_text : Structure → List SignalId → ℕ → ℕ → List ℕ
items_text s signals from end = flat_map (item_text s signals) (range_with_len from (end - from))

-- a row of the list of a path
abbrev pub list_style : Side → List ℕ
list_style Outer = codes "text-anchor=\"end\" font-size=\"10\""
list_style Inner = codes "text-anchor=\"start\" font-size=\"10\""

abbrev pub row_text : Structure → ListRow → List ℕ
row_text s row =
    text_front row.x row.y (list_style (finish_side s row.channel row.direction))
    ++ items_text s (path_signals s row.channel row.direction) row.from row.end ++ codes "</text>\n"

abbrev pub rows_text : Structure → List ListRow → List ℕ
rows_text s rows = flat_map (row_text s) rows
