-- The texts of signals and remarks. (This project's own.)
use Rattle.std.specs.Prelude.{ℕ, Bool, false, nat_lt, if◌then◌else◌, List, [], ◌++◌, length, take, flat_map, codes, string_bytes}
use Rattle.sdl_svg.specs.Elements.{text_front, letters_text}
use Rattle.sdl_chart_drawing.specs.declared.shapes.Style.{Style}
use Rattle.sdl_chart_drawing.specs.declared.shapes.Style.TheVariants.{Begin, Middle, End, Waited, Remark}
use Rattle.sdl_chart_drawing.specs.declared.shapes.Text.{Text}

-- how a text looks
abbrev pub style_text : Style → List ℕ
style_text Begin = codes "text-anchor=\"start\" font-size=\"10.5\""
style_text Middle = codes "text-anchor=\"middle\" font-size=\"10.5\""
style_text End = codes "text-anchor=\"end\" font-size=\"10.5\""
style_text Waited = codes "text-anchor=\"start\" font-size=\"10\" fill=\"#a04000\""
style_text Remark = codes "text-anchor=\"start\" font-size=\"9.5\" fill=\"#666\" font-style=\"italic\""

-- a triangle stands before a signal that waited
abbrev pub sign_text : Style → List ℕ
sign_text Waited = codes "&#9657; "
sign_text _ = []

-- a signal of more than 20 letters is cut, and stands whole in a title
abbrev pub is_cut : Style → List ℕ → Bool
is_cut Remark words = false
is_cut _ words = nat_lt 20 (length words)

abbrev pub cut_text : List ℕ → List ℕ
cut_text words = letters_text (take 20 words) ++ codes "&#8230;<title>" ++ letters_text words ++ codes "</title>"

abbrev pub shown_text : Style → List ℕ → List ℕ
shown_text style words = if is_cut style words then cut_text words else letters_text words

abbrev pub words_text : Style → List ℕ → List ℕ
words_text style words = sign_text style ++ shown_text style words

-- a text of the drawing
abbrev pub text_text : Text → List ℕ
text_text t = text_front t.at.x t.at.y (style_text t.style) ++ words_text t.style (string_bytes t.text) ++ codes "</text>\n"

abbrev pub texts_text : List Text → List ℕ
texts_text texts = flat_map text_text texts
