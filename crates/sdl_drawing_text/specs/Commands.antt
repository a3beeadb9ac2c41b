-- What the command `structure` comes to. (This project's own.)
use Rattle.std.specs.Prelude.{◌≡◌, ℕ, List, Option, ◌⊎◌}
use Rattle.sdl_structure_parts.specs.Structure.{Structure}
use Rattle.sdl_app_file_commands.specs.Commands.{HasPrinted}
use Rattle.sdl_app_file_commands.specs.Files.{Declares}
use Rattle.sdl_drawing.specs.declared.shapes.Drawing.{Drawing}
use Rattle.sdl_drawing.specs.Shown.{ShowsAll}
use Rattle.sdl_drawing.specs.Tidy.{IsTidy}
use Rattle.sdl_drawing_text.specs.declared.commands.Form.{Form}
use Rattle.sdl_drawing_text.specs.declared.commands.Form.TheVariants as form
use Rattle.sdl_drawing_text.specs.Svg.{svg_text}
use Rattle.sdl_drawing_text.specs.Written.{Adds}
use Rattle.sdl_drawing_text.specs.Dot.{IsDot}

-- a drawing that shows all of the structure, and whose shapes stand as they have to, was printed
abbrev pub HasDrawn : Structure → Option (List ℕ) → Option (List ℕ) → ℕ → Type 0
HasDrawn s old new status = (d : Drawing) × ShowsAll s d × IsTidy s d × HasPrinted old new (svg_text s d) status

-- the structure was written whole in Graphviz' language, and flushed; or the output had a fault
abbrev pub HasPrintedDot : Structure → Option (List ℕ) → Option (List ℕ) → ℕ → Type 0
HasPrintedDot s old new status = ((status ≡ 0) × Adds (IsDot s) old new) ⊎ (status ≡ 3)

-- the structure was shown in this form
abbrev pub HasShown : Form → Structure → Option (List ℕ) → Option (List ℕ) → ℕ → Type 0
HasShown form.Svg s old new status = HasDrawn s old new status
HasShown form.Dot s old new status = HasPrintedDot s old new status

-- the command was refused, or the structure that the file declares was shown
abbrev pub IsShown : Form → List ℕ → Option (List ℕ) → Option (List ℕ) → ℕ → Type 0
IsShown f file old new status = (status ≡ 1) ⊎ ((s : Structure) × Declares file s × HasShown f s old new status)
