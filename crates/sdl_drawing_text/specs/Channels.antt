-- The texts of the lines of channels, of the arrow heads of paths, and of the names of channels. (This project's own.)
use Rattle.std.specs.Prelude.{ℕ, List, [], ◌++◌, ◌==◌, if◌then◌else◌, length, flat_map, codes}
use Rattle.sdl_signal.specs.declared.ids.ChannelId.{ChannelId}
use Rattle.sdl_signal.specs.declared.ids.SignalId.{SignalId}
use Rattle.sdl_structure_parts.specs.declared.parts.Side.{Side}
use Rattle.sdl_structure_parts.specs.declared.parts.Side.TheVariants.{Outer, Inner}
use Rattle.sdl_structure_parts.specs.declared.parts.Direction.{Direction}
use Rattle.sdl_structure_parts.specs.declared.parts.Direction.TheVariants.{Forth, Back}
use Rattle.sdl_structure_parts.specs.Structure.{Structure}
use Rattle.sdl_app_file_commands.specs.Texts.{channel_text}
use Rattle.sdl_drawing.specs.declared.shapes.ChannelLine.{ChannelLine}
use Rattle.sdl_drawing.specs.declared.shapes.Head.{Head}
use Rattle.sdl_drawing.specs.Shown.{path_signals}
use Rattle.sdl_svg.specs.Elements.{attribute_text, corner_text, label_text}
use Rattle.sdl_drawing_text.specs.Paths.{finish_side}

-- the sign of a path: `+` from the channel's first end to its second, and `-` back
abbrev pub direction_sign : Direction → List ℕ
direction_sign Forth = codes "+"
direction_sign Back = codes "-"

-- the arrow head of a path, which stands only where the path carries a signal
abbrev pub head_front : Structure → ChannelId → Direction → List ℕ
head_front s channel direction = codes "<polygon data-path=\"" ++ channel_text s channel ++ direction_sign direction ++ codes "\""

abbrev pub head_points : Head → List ℕ
head_points h = corner_text (codes " points=\"") h.tip.x h.tip.y ++ corner_text (codes " ") h.foot h.top ++ corner_text (codes " ") h.foot h.bottom

abbrev pub polygon_text : Structure → ChannelId → Direction → Head → List ℕ
polygon_text s channel direction head = head_front s channel direction ++ head_points head ++ codes "\"/>\n"

abbrev pub unless_empty : List SignalId → List ℕ → List ℕ
unless_empty signals text = if length signals == 0 then [] else text

abbrev pub head_text : Structure → ChannelId → Direction → Head → List ℕ
head_text s channel direction head = unless_empty (path_signals s channel direction) (polygon_text s channel direction head)

-- the line of a channel: from its first end to its track, along the track, and to its second end
abbrev pub line_name : Structure → ChannelId → List ℕ
line_name s channel = attribute_text (codes "data-channel") (channel_text s channel)

abbrev pub corners_text : ChannelLine → List ℕ
corners_text l =
    corner_text (codes " points=\"") l.first.x l.first.y ++ corner_text (codes " ") l.track l.first.y
    ++ corner_text (codes " ") l.track l.second.y ++ corner_text (codes " ") l.second.x l.second.y

abbrev pub polyline_text : Structure → ChannelLine → List ℕ
polyline_text s l =
    codes "<polyline class=\"channel\"" ++ line_name s l.channel ++ corners_text l ++ codes "\" fill=\"none\" stroke=\"#000\"/>\n"

-- the same with the heads of its paths
abbrev pub line_text : Structure → ChannelLine → List ℕ
line_text s l = polyline_text s l ++ head_text s l.channel Back l.first.head ++ head_text s l.channel Forth l.second.head

abbrev pub lines_text : Structure → List ChannelLine → List ℕ
lines_text s lines = flat_map (line_text s) lines

-- the name of a channel, at its second end
abbrev pub name_style : Side → List ℕ
name_style Outer = codes "text-anchor=\"end\" font-size=\"9\" fill=\"#666\" font-style=\"italic\""
name_style Inner = codes "text-anchor=\"start\" font-size=\"9\" fill=\"#666\" font-style=\"italic\""

abbrev pub channel_name_text : Structure → ChannelLine → List ℕ
channel_name_text s l = label_text l.name.x l.name.y (name_style (finish_side s l.channel Forth)) (channel_text s l.channel)

abbrev pub channel_names_text : Structure → List ChannelLine → List ℕ
channel_names_text s lines = flat_map (channel_name_text s) lines
