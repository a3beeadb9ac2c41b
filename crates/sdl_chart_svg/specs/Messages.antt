-- The texts of messages. (This project's own.)
use Rattle.std.specs.Prelude.{ℕ, ◌+◌, ◌==◌, Bool, true, false, if◌then◌else◌, List, [], ◌++◌, Option, None, Some, flat_map, codes, decimal}
use Rattle.sdl_signal.specs.declared.values.Origin.{Origin}
use Rattle.sdl_chart_drawing.specs.declared.shapes.Point.{Point}
use Rattle.sdl_chart_drawing.specs.declared.shapes.Tip.{Tip}
use Rattle.sdl_chart_drawing.specs.declared.shapes.Tip.TheVariants as tip
use Rattle.sdl_chart_drawing.specs.declared.shapes.Message.{Message}
use Rattle.sdl_svg.specs.Elements.{text_front}
use Rattle.sdl_chart_svg.specs.Texts.{texts_text}
use Rattle.sdl_chart_svg.specs.Shapes.{line_text, disc_text}

-- The front of a message's group: how it ends, its item by the worker and the number of its output, and the events of its output and
-- of its arrival, which count from 1. One that does not arrive in this part of the run has no second event.
abbrev pub class_text : Tip → List ℕ
class_text tip.Arrow = codes "message"
class_text tip.Lost = codes "lost"
class_text tip.Later = codes "later"
class_text tip.Hidden = codes "hidden"

abbrev pub item_text : Tip → Origin → ℕ → List ℕ
item_text t o from =
    codes "<g class=\"" ++ class_text t ++ codes "\" data-item=\"" ++ decimal o.worker ++ codes "." ++ decimal o.number
    ++ codes "\" data-from=\"" ++ decimal (from + 1) ++ codes "\""

abbrev pub to_text : Option ℕ → List ℕ
to_text None = codes ">"
to_text (Some row) = codes " data-to=\"" ++ decimal (row + 1) ++ codes "\">"

-- its line, which goes around at the right where both ends are on one lifeline, and how the line looks
abbrev pub around_text : Point → Point → List ℕ → List ℕ
around_text tail head look =
    codes "<path d=\"M" ++ decimal tail.x ++ codes "," ++ decimal tail.y ++ codes "h28V" ++ decimal head.y ++ codes "H" ++ decimal head.x
    ++ codes "\" fill=\"none\" stroke=\"#000\"" ++ look ++ codes "/>"

abbrev pub way_text : Point → Point → List ℕ → List ℕ
way_text tail head look = if tail.x == head.x then around_text tail head look else line_text tail head look

abbrev pub look_text : Tip → List ℕ
look_text tip.Arrow = codes " marker-end=\"url(#arrow-head)\""
look_text _ = []

-- what stands at the end: a disc where it goes no further, or a circle where it arrives later
abbrev pub tip_text : Tip → Point → List ℕ
tip_text tip.Lost at = disc_text at []
tip_text tip.Later at = disc_text at (codes " fill=\"#fff\" stroke=\"#000\"")
tip_text _ at = []

abbrev pub arrow_text : Message → List ℕ
arrow_text m = way_text m.tail m.head (look_text m.tip) ++ tip_text m.tip m.head ++ texts_text m.texts.items

-- what is drawn of it: nothing where it is hidden
abbrev pub unless_hidden : Tip → List ℕ → List ℕ
unless_hidden tip.Hidden text = []
unless_hidden _ text = text

abbrev pub drawn_text : Message → List ℕ
drawn_text m = unless_hidden m.tip (arrow_text m)

-- Behind the end of one whose item never arrives stands the reason: where the item was left. A reason is told by the item's output.
abbrev pub is_lost : Tip → Bool
is_lost tip.Lost = true
is_lost _ = false

abbrev pub is_left : Tip → Option ℕ → Bool
is_left t None = is_lost t
is_left t (Some row) = false

abbrev pub reason_front : Point → List ℕ
reason_front at = text_front at.x at.y (codes "dx=\"10\" dy=\"8\" font-size=\"9.5\" fill=\"#666\" font-style=\"italic\"")

abbrev pub note_text : Point → List ℕ → List ℕ
note_text at reason = reason_front at ++ reason ++ codes "</text>\n"

abbrev pub left_note : (Origin → List ℕ) → Message → List ℕ
left_note reason m = if is_left m.tip m.to then note_text m.head (reason m.origin) else []

-- a message
abbrev pub message_text : (Origin → List ℕ) → Message → List ℕ
message_text reason m = item_text m.tip m.origin m.from ++ to_text m.to ++ drawn_text m ++ left_note reason m ++ codes "</g>\n"

abbrev pub messages_text : (Origin → List ℕ) → List Message → List ℕ
messages_text reason messages = flat_map (message_text reason) messages
