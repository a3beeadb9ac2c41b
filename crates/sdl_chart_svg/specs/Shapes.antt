-- The texts of events and of their shapes. (This project's own.)
use Rattle.std.specs.Prelude.{ℕ, ◌+◌, ◌-◌, List, [], ◌++◌, flat_map, codes, decimal, string_bytes}
use Rattle.sdl_chart_drawing.specs.declared.shapes.Point.{Point}
use Rattle.sdl_chart_drawing.specs.declared.shapes.Event.{Event}
use Rattle.sdl_chart_drawing.specs.declared.shapes.Shape.{Shape}
use Rattle.sdl_chart_drawing.specs.declared.shapes.Shape.TheVariants as shape
use Rattle.sdl_chart_svg.specs.Texts.{text_text}

-- a transition: from its upper to its lower end
abbrev pub bar_text : ℕ → ℕ → ℕ → List ℕ
bar_text x top bottom =
    codes "<path d=\"M" ++ decimal x ++ codes "," ++ decimal top ++ codes "m-4,0h8V" ++ decimal bottom
    ++ codes "h-8z\" fill=\"#ddd\" stroke=\"#000\"/>"

-- a state: a hexagon, and its name
abbrev pub state_text : Point → ℕ → List ℕ → List ℕ
state_text at half name =
    codes "<g transform=\"translate(" ++ decimal at.x ++ codes "," ++ decimal at.y ++ codes ")\"><path class=\"state\" d=\"M-" ++ decimal half
    ++ codes ",0l7,-10h" ++ decimal (half - 7) ++ codes "h" ++ decimal (half - 7) ++ codes "l7,10l-7,10h-" ++ decimal (half - 7)
    ++ codes "h-" ++ decimal (half - 7)
    ++ codes "z\" fill=\"#eef3fb\" stroke=\"#000\"/><text y=\"4\" text-anchor=\"middle\" font-size=\"10.5\">" ++ name ++ codes "</text></g>"

-- a line, and a disc, where a signal goes no further; how they look
abbrev pub line_text : Point → Point → List ℕ → List ℕ
line_text tail head look =
    codes "<path d=\"M" ++ decimal tail.x ++ codes "," ++ decimal tail.y ++ codes "L" ++ decimal head.x ++ codes "," ++ decimal head.y
    ++ codes "\" fill=\"none\" stroke=\"#000\"" ++ look ++ codes "/>"

abbrev pub disc_text : Point → List ℕ → List ℕ
disc_text at look = codes "<circle cx=\"" ++ decimal at.x ++ codes "\" cy=\"" ++ decimal at.y ++ codes "\" r=\"4\"" ++ look ++ codes "/>"

-- an output without a route
abbrev pub no_route_text : Point → Point → List ℕ
no_route_text tail head = line_text tail head [] ++ disc_text head []

-- a shape; the creation of an instance is a dashed arrow
abbrev pub shape_text : Shape → List ℕ
shape_text (shape.Bar x top bottom) = bar_text x top bottom
shape_text (shape.State at half name) = state_text at half (string_bytes name)
shape_text (shape.Create tail head) = line_text tail head (codes " stroke-dasharray=\"5 3\" marker-end=\"url(#arrow-head)\"")
shape_text (shape.NoRoute tail head) = no_route_text tail head
shape_text (shape.Text t) = text_text t

abbrev pub shapes_text : List Shape → List ℕ
shapes_text shapes = flat_map shape_text shapes

-- an event: a group with the number of its row, which counts from 1
abbrev pub event_front : ℕ → List ℕ
event_front row = codes "<g class=\"event\" data-row=\"" ++ decimal (row + 1) ++ codes "\">"

abbrev pub event_text : Event → List ℕ
event_text e = event_front e.row ++ shapes_text e.shapes.items ++ codes "</g>\n"

abbrev pub events_text : List Event → List ℕ
events_text events = flat_map event_text events
