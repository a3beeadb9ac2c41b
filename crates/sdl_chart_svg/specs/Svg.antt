-- The text of a chart as SVG: the texts of its shapes, one after the other. (This project's own.)
use Rattle.std.specs.Prelude.{ℕ, ◌+◌, ◌-◌, ◌==◌, ◌&&◌, if◌then◌else◌, List, [], ◌++◌, codes, decimal}
use Rattle.sdl_signal.specs.declared.values.Origin.{Origin}
use Rattle.sdl_svg.specs.Front.{svg_front}
use Rattle.sdl_chart_drawing.specs.declared.shapes.Drawing.{Drawing}
use Rattle.sdl_chart_svg.specs.declared.svg.Heading.{Heading}
use Rattle.sdl_chart_svg.specs.Lifelines.{lifelines_text, names_text}
use Rattle.sdl_chart_svg.specs.Shapes.{shapes_text as states_text, events_text}
use Rattle.sdl_chart_svg.specs.Messages.{messages_text}

-- the front: a white sheet, the head of all arrows, and the frame
abbrev pub frame_text : ℕ → ℕ → List ℕ
frame_text width height =
    codes "<defs><marker id=\"arrow-head\" viewBox=\"0 0 9 7\" refX=\"9\" refY=\"3.5\" markerWidth=\"9\" markerHeight=\"7\" markerUnits=\"userSpaceOnUse\" orient=\"auto\"><path d=\"M0,0L9,3.5L0,7z\"/></marker></defs>\n<rect x=\"8\" y=\"8\" width=\""
    ++ decimal width ++ codes "\" height=\"" ++ decimal height ++ codes "\" fill=\"none\" stroke=\"#000\"/>\n"

abbrev pub chart_front : ℕ → ℕ → List ℕ
chart_front width height = svg_front width height ++ frame_text (width - 16) (height - 16)

-- the heading: the name of the system, how many events there are, and which are drawn where these are not all
abbrev pub title_text : List ℕ → ℕ → List ℕ
title_text system events =
    codes "<text x=\"18\" y=\"28\" font-size=\"14\" font-weight=\"bold\">msc " ++ system
    ++ codes "</text>\n<text x=\"18\" y=\"44\" font-size=\"10\" fill=\"#666\">" ++ decimal events ++ codes " events"

abbrev pub range_text : ℕ → ℕ → List ℕ
range_text first past = codes ", events " ++ decimal (first + 1) ++ codes " to " ++ decimal past

abbrev pub part_text : Heading → List ℕ
part_text h = if h.first == 0 && h.past == h.events then [] else range_text h.first h.past

abbrev pub heading_text : Heading → List ℕ
heading_text h = title_text h.system.now h.events ++ part_text h ++ codes "</text>\n"

-- what is drawn: lifelines, the states above the first event, events, messages, those from above the part, and the names once more
abbrev pub shapes_text : (Origin → List ℕ) → Drawing → List ℕ
shapes_text reason d =
    lifelines_text d.lifelines.items ++ states_text d.states.items ++ events_text d.events.items ++ messages_text reason d.messages.items
    ++ messages_text reason d.incoming.items ++ names_text d.lifelines.items d.names.items

-- what the signs mean, and the end
abbrev pub legend_text : ℕ → List ℕ
legend_text height =
    codes "<text x=\"18\" y=\"" ++ decimal (height - 18)
    ++ codes "\" font-size=\"9\" fill=\"#888\">arrow head: the signal enters the port &#183; bar: a transition &#183; &#9657; consumed later than it came &#183; &#9679; never arrives or discarded</text>\n</svg>\n"

-- a chart, with the reasons why items never arrive
abbrev pub chart_svg : Heading → (Origin → List ℕ) → Drawing → List ℕ
chart_svg h reason d = chart_front d.width d.height ++ heading_text h ++ shapes_text reason d ++ legend_text d.height
