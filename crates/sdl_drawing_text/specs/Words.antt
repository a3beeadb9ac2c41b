-- What the words after `structure` ask for. (This project's own.)
use Rattle.std.specs.Prelude.{ℕ, if◌then◌else◌, List, [], ◌∷◌, Option, Some, None, codes, bytes_eq}
use Rattle.sdl_app_command.specs.Arguments.{is_option}
use Rattle.sdl_drawing_text.specs.declared.commands.Form.{Form}
use Rattle.sdl_drawing_text.specs.declared.commands.Form.TheVariants as form

-- this form, of a path that is no option
abbrev pub of_path : Form → List ℕ → Option Form
of_path f path = if is_option path then None else Some f

-- an option and a path
abbrev pub with_option : List ℕ → List ℕ → Option Form
with_option option path = if bytes_eq option (codes "--dot") then of_path form.Dot path else None

-- a file, or `--dot` and a file; all else is wrong
abbrev pub form_of : List (List ℕ) → Option Form
form_of (file ∷ []) = of_path form.Svg file
form_of (option ∷ file ∷ []) = with_option option file
form_of _ = None
