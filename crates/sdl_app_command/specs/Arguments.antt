-- What the program's arguments ask for.
use Rattle.std.specs.Prelude.{ℕ, Bool, false, ◌||◌, if◌then◌else◌, List, [], ◌∷◌, length, Option, Some, None, codes, bytes_eq, nat_eq}
use Rattle.std.specs.List.{starts_with, list_all, list_any}
use Rattle.sdl_app_command.specs.declared.arguments.Command.{Command}
use Rattle.sdl_app_command.specs.declared.arguments.Command.TheVariants as command
use Rattle.sdl_app_command.specs.declared.arguments.Options.{Options}
use Rattle.sdl_app_command.specs.declared.arguments.Arguments.{Arguments}
use Rattle.sdl_app_command.specs.declared.arguments.Arguments.TheVariants as arguments

-- a command without options
abbrev pub without_options : Command → Options
without_options command = record { command = command; serial = false; ledger = false; trace = false }

-- an option begins with two dashes, and a file does not
abbrev pub is_option : List ℕ → Bool
is_option word = starts_with nat_eq word (codes "--")

-- `check FILE` and `routes FILE`
abbrev pub file_arguments_of : List ℕ → List (List ℕ) → Option Arguments
file_arguments_of word (file ∷ []) =
    if is_option file then None
    else if bytes_eq word (codes "check") then Some (arguments.File (without_options command.Check) 1)
    else if bytes_eq word (codes "routes") then Some (arguments.File (without_options command.Routes) 1)
    else None
file_arguments_of word _ = None

-- the words that `run` takes before its file
abbrev pub is_run_option : List ℕ → Bool
is_run_option word = bytes_eq word (codes "--serial") || bytes_eq word (codes "--ledger") || bytes_eq word (codes "--trace")

abbrev pub has : List ℕ → List (List ℕ) → Bool
has word words = list_any (λ w. bytes_eq w word) words

-- the last of the words, and those before it
abbrev pub last_word : List (List ℕ) → Option (List ℕ)
last_word [] = None
last_word (word ∷ []) = Some word
last_word (word ∷ next ∷ words) = last_word (next ∷ words)

abbrev pub words_before : List (List ℕ) → List (List ℕ)
words_before [] = []
words_before (word ∷ []) = []
words_before (word ∷ next ∷ words) = word ∷ words_before (next ∷ words)

-- the options that stand among the words of `run`
abbrev pub options_in : List (List ℕ) → Options
options_in words = record { command = command.Run; serial = has (codes "--serial") words; ledger = has (codes "--ledger") words; trace = has (codes "--trace") words }

-- the options and the file of `run`, where the file is the word of this number
abbrev pub chosen_arguments_of : List (List ℕ) → List ℕ → ℕ → Option Arguments
chosen_arguments_of chosen file place =
    if is_option file then None
    else if list_all is_run_option chosen then Some (arguments.File (options_in chosen) place)
    else None

abbrev pub run_file_arguments : List (List ℕ) → ℕ → Option (List ℕ) → Option Arguments
run_file_arguments chosen place None = None
run_file_arguments chosen place (Some file) = chosen_arguments_of chosen file place

-- the words after `run`: options in any order, each once or more, and last the file
abbrev pub run_arguments_of : List (List ℕ) → Option Arguments
run_arguments_of words = run_file_arguments (words_before words) (length words) (last_word words)

-- `pipe`, a command with a file, or `run`; all else is wrong
abbrev pub arguments_of : List (List ℕ) → Option Arguments
arguments_of [] = None
arguments_of (word ∷ []) = if bytes_eq word (codes "pipe") then Some arguments.Pipe else None
arguments_of (word ∷ words) = if bytes_eq word (codes "run") then run_arguments_of words else file_arguments_of word words
