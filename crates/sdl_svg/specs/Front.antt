-- The front of an SVG. (This project's own.)
use Rattle.std.specs.Prelude.{ℕ, List, ◌++◌, codes, decimal}
use Rattle.sdl_svg.specs.Elements.{size_text}

-- the size of the picture, in which a unit is a pixel
abbrev pub numbers_text : ℕ → ℕ → List ℕ
numbers_text width height = decimal width ++ codes " " ++ decimal height ++ codes "\""

abbrev pub view_text : ℕ → ℕ → List ℕ
view_text width height = codes " viewBox=\"0 0 " ++ numbers_text width height

abbrev pub svg_root : ℕ → ℕ → List ℕ
svg_root width height =
    codes "<svg xmlns=\"http://www.w3.org/2000/svg\"" ++ size_text width height ++ view_text width height
    ++ codes " font-family=\"DejaVu Sans, Verdana, sans-serif\">\n"

-- a white sheet
abbrev pub svg_sheet : ℕ → ℕ → List ℕ
svg_sheet width height = codes "<rect" ++ size_text width height ++ codes " fill=\"#fff\"/>\n"

-- the front: the size, the look of all texts, and the sheet
abbrev pub svg_front : ℕ → ℕ → List ℕ
svg_front width height =
    svg_root width height
    ++ codes "<style>text{paint-order:stroke;stroke:#fff;stroke-width:3px;stroke-linejoin:round}</style>\n"
    ++ svg_sheet width height
