-- The texts of the boxes of gates, and of the gates' names. (This project's own.)
use Rattle.std.specs.Prelude.{ℕ, List, ◌++◌, option_map, unwrap_or, flat_map, codes}
use Rattle.sdl_signal.specs.declared.ids.GateId.{GateId}
use Rattle.sdl_structure_parts.specs.declared.parts.Owner.{Owner}
use Rattle.sdl_structure_parts.specs.declared.parts.Owner.TheVariants as owner
use Rattle.sdl_structure_parts.specs.Structure.{Structure, gate_at}
use Rattle.sdl_app_file_commands.specs.Texts.{agent_text, gate_text}
use Rattle.sdl_drawing.specs.declared.shapes.GateBox.{GateBox}
use Rattle.sdl_svg.specs.Elements.{label_text}
use Rattle.sdl_drawing_text.specs.Elements.{rect_text}

-- a gate's box: a rectangle with the names of its agent and of the gate
abbrev pub box_front : Structure → GateId → List ℕ
box_front s gate = codes "<rect class=\"gate\" data-gate=\"" ++ agent_text s gate ++ codes "." ++ gate_text s gate ++ codes "\""

abbrev pub box_text : Structure → GateBox → List ℕ
box_text s box = box_front s box.gate ++ rect_text box.rect ++ codes " fill=\"#cfdcf2\" stroke=\"#000\"/>\n"

abbrev pub boxes_text : Structure → List GateBox → List ℕ
boxes_text s boxes = flat_map (box_text s) boxes

-- a gate's name, and how it looks: outside the system's frame, and else inside
abbrev pub gate_owner : Structure → GateId → Owner
gate_owner s gate = unwrap_or (option_map (λ g. g.owner) (gate_at s gate)) owner.System

abbrev pub gate_name_style : Owner → List ℕ
gate_name_style owner.System = codes "text-anchor=\"end\" font-size=\"11\" font-weight=\"bold\""
gate_name_style (owner.Block b) = codes "text-anchor=\"start\" font-size=\"9\" fill=\"#1b4b9b\""
gate_name_style (owner.Set t) = codes "text-anchor=\"start\" font-size=\"9\" fill=\"#1b4b9b\""

abbrev pub gate_name_text : Structure → GateBox → List ℕ
gate_name_text s box = label_text box.name.x box.name.y (gate_name_style (gate_owner s box.gate)) (gate_text s box.gate)

abbrev pub gate_names_text : Structure → List GateBox → List ℕ
gate_names_text s boxes = flat_map (gate_name_text s) boxes
