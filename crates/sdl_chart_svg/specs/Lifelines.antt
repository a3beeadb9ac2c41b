-- The texts of lifelines and of their names. (This project's own.)
use Rattle.std.specs.Prelude.{ℕ, Bool, ◌-◌, ◌*◌, ◌==◌, ◌&&◌, nat_lt, if◌then◌else◌, List, [], ◌++◌, flat_map, codes, decimal, string_bytes}
use Rattle.sdl_chart_drawing.specs.declared.shapes.Lifeline.{Lifeline}

-- the line, which is dotted where it is no instance's
abbrev pub dash_text : Bool → List ℕ
dash_text dotted = if dotted then codes " stroke-dasharray=\"2 3\"" else []

-- the end: of an instance a cross where it stopped, and else a bar
abbrev pub end_text : Bool → Bool → List ℕ
end_text dotted stopped =
    if dotted then codes "\""
    else if stopped then codes "m-7,-7l14,14m0,-14l-14,14\" stroke=\"#000\" stroke-width=\"1.6\""
    else codes "m-24,0h48v6h-48z\""

-- with the sign at its end, the box of its name at its top, and what stands over that
abbrev pub stem_text : Lifeline → List ℕ
stem_text l =
    codes "<g transform=\"translate(" ++ decimal l.x ++ codes "," ++ decimal l.top ++ codes ")\"><path d=\"M0,0V" ++ decimal (l.bottom - l.top)
    ++ codes "\" stroke=\"#000\"" ++ dash_text l.dotted ++ codes "/><path d=\"M0," ++ decimal (l.bottom - l.top) ++ end_text l.dotted l.stopped
    ++ codes "/><rect x=\"-" ++ decimal l.half ++ codes "\" y=\"-10\" width=\"" ++ decimal (l.half * 2)
    ++ codes "\" height=\"20\" fill=\"#fff\" stroke=\"#000\"/><text y=\"-14\" text-anchor=\"middle\" font-size=\"9\" fill=\"#666\">"
    ++ string_bytes l.over ++ codes "</text><text y=\"4\" text-anchor=\"middle\" font-size=\"11\" font-weight=\"bold\">"
    ++ string_bytes l.name ++ codes "</text></g>\n"

-- how many signals wait in the port there, where some do
abbrev pub waiting_text : ℕ → ℕ → ℕ → List ℕ
waiting_text waiting x y =
    if waiting == 0 then []
    else codes "<text x=\"" ++ decimal x ++ codes "\" y=\"" ++ decimal y
    ++ codes "\" dy=\"18\" text-anchor=\"middle\" font-size=\"9.5\" fill=\"#666\" font-style=\"italic\">" ++ decimal waiting
    ++ codes " waiting</text>\n"

abbrev pub lifeline_text : Lifeline → List ℕ
lifeline_text l = stem_text l ++ waiting_text l.waiting l.x l.bottom

abbrev pub lifelines_text : List Lifeline → List ℕ
lifelines_text lines = flat_map lifeline_text lines

-- the names once more at some heights, of the lifelines that are there
abbrev pub again_text : ℕ → ℕ → List ℕ → List ℕ
again_text x y name =
    codes "<text x=\"" ++ decimal x ++ codes "\" y=\"" ++ decimal y
    ++ codes "\" text-anchor=\"middle\" font-size=\"10\" fill=\"#2a5db0\" font-style=\"italic\">" ++ name ++ codes "</text>\n"

abbrev pub reminder_text : ℕ → Lifeline → List ℕ
reminder_text y l = if nat_lt l.top y && nat_lt y l.bottom then again_text l.x y (string_bytes l.name) else []

abbrev pub reminders_text : ℕ → List Lifeline → List ℕ
reminders_text y lines = flat_map (reminder_text y) lines

abbrev pub names_text : List Lifeline → List ℕ → List ℕ
names_text lines heights = flat_map (λ y. reminders_text y lines) heights
