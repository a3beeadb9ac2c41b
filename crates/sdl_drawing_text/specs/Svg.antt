-- The text of a drawing as SVG: the texts of its shapes, one after the other. (This project's own.)
use Rattle.std.specs.Prelude.{ℕ, List, ◌++◌, codes}
use Rattle.sdl_structure_parts.specs.Structure.{Structure}
use Rattle.sdl_drawing.specs.declared.shapes.Drawing.{Drawing}
use Rattle.sdl_svg.specs.Front.{svg_front}
use Rattle.sdl_drawing_text.specs.Frames.{frames_text, titles_text}
use Rattle.sdl_drawing_text.specs.Channels.{lines_text, channel_names_text}
use Rattle.sdl_drawing_text.specs.Gates.{boxes_text, gate_names_text}
use Rattle.sdl_drawing_text.specs.Lists.{rows_text}

-- the frames, the lines of channels, and the boxes of gates
abbrev pub shapes_text : Structure → Drawing → List ℕ
shapes_text s d = frames_text s d.frames.items ++ lines_text s d.channels.items ++ boxes_text s d.gates.items

-- the titles of the agents, the names of gates, the lists of signals, and the names of channels
abbrev pub names_text : Structure → Drawing → List ℕ
names_text s d = titles_text s d.frames.items ++ gate_names_text s d.gates.items ++ rows_text s d.rows.items ++ channel_names_text s d.channels.items

abbrev pub svg_text : Structure → Drawing → List ℕ
svg_text s d = svg_front d.width d.height ++ shapes_text s d ++ names_text s d ++ codes "</svg>\n"
