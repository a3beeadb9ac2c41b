-- What several elements of an SVG have, and the words that both forms have of a set. (This project's own.)
use Rattle.std.specs.Prelude.{ℕ, ◌-◌, List, ◌++◌, codes, decimal}
use Rattle.sdl_structure_parts.specs.declared.parts.Set.{Set}
use Rattle.sdl_drawing.specs.declared.shapes.Rect.{Rect}
use Rattle.sdl_svg.specs.Elements.{place_text, size_text}

-- where a rectangle stands
abbrev pub rect_text : Rect → List ℕ
rect_text r = place_text r.left r.top ++ size_text (r.right - r.left) (r.bottom - r.top)

-- the name of a set, the number of its instances at the start of a run, and the most that it may have
abbrev pub counts_text : ℕ → ℕ → List ℕ
counts_text initial maximum = codes " (" ++ decimal initial ++ codes ", " ++ decimal maximum ++ codes ")"

abbrev pub set_words : Set → List ℕ
set_words t = t.name.bytes ++ counts_text t.initial t.maximum
