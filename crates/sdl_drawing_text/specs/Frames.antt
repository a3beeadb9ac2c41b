-- The texts of frames and of their titles. (This project's own.)
use Rattle.std.specs.Prelude.{ℕ, List, [], ◌++◌, option_map, unwrap_or, flat_map, codes}
use Rattle.sdl_signal.specs.declared.ids.SetId.{SetId}
use Rattle.sdl_structure_parts.specs.declared.parts.Owner.{Owner}
use Rattle.sdl_structure_parts.specs.declared.parts.Owner.TheVariants as owner
use Rattle.sdl_structure_parts.specs.Structure.{Structure, set_at}
use Rattle.sdl_app_file_commands.specs.Texts.{owner_text, block_text}
use Rattle.sdl_drawing.specs.declared.shapes.Frame.{Frame}
use Rattle.sdl_svg.specs.Elements.{attribute_text, text_front}
use Rattle.sdl_drawing_text.specs.Elements.{rect_text, set_words}

-- a frame: a rectangle with the kind and the name of its agent, and how it looks
abbrev pub frame_front : Owner → List ℕ
frame_front owner.System = codes "<rect class=\"system\""
frame_front (owner.Block b) = codes "<rect class=\"block\""
frame_front (owner.Set t) = codes "<rect class=\"set\""

abbrev pub agent_text : Structure → Owner → List ℕ
agent_text s agent = attribute_text (codes "data-agent") (owner_text s agent)

abbrev pub frame_end : Owner → List ℕ
frame_end owner.System = codes " fill=\"#fff\" stroke=\"#000\" stroke-width=\"2\"/>\n"
frame_end (owner.Block b) = codes " fill=\"#fff\" stroke=\"#000\" stroke-width=\"1.3\"/>\n"
frame_end (owner.Set t) = codes " rx=\"12\" fill=\"#f6f8fc\" stroke=\"#000\" stroke-width=\"1.3\"/>\n"

abbrev pub frame_text : Structure → Frame → List ℕ
frame_text s f = frame_front f.agent ++ agent_text s f.agent ++ rect_text f.rect ++ frame_end f.agent

abbrev pub frames_text : Structure → List Frame → List ℕ
frames_text s frames = flat_map (frame_text s) frames

-- the words of a title: the kind and the name of the system or of a block; the name of a set, with its numbers of instances
abbrev pub scope_words : List ℕ → List ℕ → List ℕ
scope_words kind name = kind ++ codes " " ++ name

abbrev pub set_title : Structure → SetId → List ℕ
set_title s set = unwrap_or (option_map set_words (set_at s set)) []

abbrev pub title_words : Structure → Owner → List ℕ
title_words s owner.System = scope_words (codes "system") s.system
title_words s (owner.Block b) = scope_words (codes "block") (block_text s b)
title_words s (owner.Set t) = set_title s t

-- how a title looks: a set's has its middle at its place, and each other ends there
abbrev pub title_style : Owner → List ℕ
title_style owner.System = codes "text-anchor=\"end\" font-size=\"11\" font-weight=\"bold\""
title_style (owner.Block b) = codes "text-anchor=\"end\" font-size=\"11\" font-weight=\"bold\""
title_style (owner.Set t) = codes "text-anchor=\"middle\" font-size=\"11\" font-weight=\"bold\""

abbrev pub title_text : Structure → Frame → List ℕ
title_text s f = text_front f.name.x f.name.y (title_style f.agent) ++ title_words s f.agent ++ codes "</text>\n"

abbrev pub titles_text : Structure → List Frame → List ℕ
titles_text s frames = flat_map (title_text s) frames
