-- What a command on a structure file comes to, by its exit status. (This project's own.)
use Rattle.std.specs.Prelude.{◌≡◌, ℕ, ◌⊎◌, List, Option}
use Rattle.std.specs.Io.KnownBytes.{Appends}
use Rattle.sdl_structure_parts.specs.Structure.{Structure}
use Rattle.sdl_routes.specs.declared.route.TableRow.{TableRow}
use Rattle.sdl_routes.specs.Routes.{AreRoutesOf}
use Rattle.sdl_app_command.specs.declared.arguments.Command.{Command}
use Rattle.sdl_app_command.specs.declared.arguments.Command.TheVariants as command
use Rattle.sdl_app_file_commands.specs.Files.{Declares}
use Rattle.sdl_app_file_commands.specs.Texts.{check_text, routes_text}

-- The text was written whole, and flushed; or the output had a fault, and how much of the text went out is not said.
abbrev pub HasPrinted : Option (List ℕ) → Option (List ℕ) → List ℕ → ℕ → Type 0
HasPrinted old new text status = ((status ≡ 0) × Appends old new text) ⊎ (status ≡ 3)

-- the routes of the structure were listed
abbrev pub HasListed : Structure → Option (List ℕ) → Option (List ℕ) → ℕ → Type 0
HasListed s old new status = (routes : List TableRow) × AreRoutesOf s routes × HasPrinted old new (routes_text s routes) status

-- What a command comes to that was not refused, by what its output held before and after it: `check` prints a line on the
-- structure alone, and `routes` those of its routes. `run` comes to what holds of a run with its structure, its routes and its
-- status.
abbrev pub ComesTo : (Structure → List TableRow → ℕ → Type 0) → Option (List ℕ) → Option (List ℕ) → Command → Structure → ℕ → Type 0
ComesTo ran old new command.Check s status = HasPrinted old new (check_text s) status
ComesTo ran old new command.Routes s status = HasListed s old new status
ComesTo ran old new command.Run s status = (routes : List TableRow) × AreRoutesOf s routes × ran s routes status

-- a command on a file was refused, or it was done on the structure that the file declares
abbrev pub IsDone : (Structure → List TableRow → ℕ → Type 0) → Option (List ℕ) → Option (List ℕ) → Command → List ℕ → ℕ → Type 0
IsDone ran old new command file status = (status ≡ 1) ⊎ ((s : Structure) × Declares file s × ComesTo ran old new command s status)
