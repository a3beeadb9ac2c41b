-- Attributes, and the elements of texts. (This project's own.)
use Rattle.std.specs.Prelude.{ℕ, List, [], ◌∷◌, ◌++◌, ◌==◌, if◌then◌else◌, flat_map, codes, decimal}

-- an attribute, and one that is a number of pixels
abbrev pub attribute_text : List ℕ → List ℕ → List ℕ
attribute_text name value = codes " " ++ name ++ codes "=\"" ++ value ++ codes "\""

abbrev pub length_text : List ℕ → ℕ → List ℕ
length_text name value = attribute_text name (decimal value)

-- where an element stands, and how large it is
abbrev pub place_text : ℕ → ℕ → List ℕ
place_text x y = length_text (codes "x") x ++ length_text (codes "y") y

abbrev pub size_text : ℕ → ℕ → List ℕ
size_text width height = length_text (codes "width") width ++ length_text (codes "height") height

-- a corner of a line or of an arrow head, behind a text
abbrev pub corner_text : List ℕ → ℕ → ℕ → List ℕ
corner_text before x y = before ++ decimal x ++ codes "," ++ decimal y

-- the front of a text that stands here in this style
abbrev pub style_end : List ℕ → List ℕ
style_end style = codes " " ++ style ++ codes ">"

abbrev pub text_front : ℕ → ℕ → List ℕ → List ℕ
text_front x y style = codes "<text" ++ place_text x y ++ style_end style

-- the same with words in it
abbrev pub label_text : ℕ → ℕ → List ℕ → List ℕ → List ℕ
label_text x y style words = text_front x y style ++ words ++ codes "</text>\n"

-- the letters of a text, with the names of those that are special in XML
abbrev pub letter_text : ℕ → List ℕ
letter_text letter =
    if letter == 60 then codes "&lt;"
    else if letter == 62 then codes "&gt;"
    else if letter == 38 then codes "&amp;"
    else letter ∷ []

abbrev pub letters_text : List ℕ → List ℕ
letters_text letters = flat_map letter_text letters
