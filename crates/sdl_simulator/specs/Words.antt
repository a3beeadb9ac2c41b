-- What the words after the simulator's name ask for. (This project's own.)
use Rattle.std.specs.Prelude.{ℕ, Bool, false, ◌||◌, if◌then◌else◌, List, [], ◌∷◌, Option, Some, None, option_map, codes, bytes_eq}
use Rattle.std.specs.List.{list_all}
use Rattle.sdl_app_command.specs.declared.arguments.Command.{Command}
use Rattle.sdl_app_command.specs.declared.arguments.Command.TheVariants as command
use Rattle.sdl_app_command.specs.Arguments.{is_option, is_run_option, has, last_word, words_before, options_in}
use Rattle.sdl_drawing_text.specs.Words.{form_of}
use Rattle.sdl_app_command.specs.declared.arguments.Options.{Options}
use Rattle.sdl_chart_words.specs.declared.asked.Request.{Request}
use Rattle.sdl_chart_words.specs.Words.{request_of}
use Rattle.sdl_simulator.specs.declared.words.Asked.{Asked}
use Rattle.sdl_simulator.specs.declared.words.Asked.TheVariants as asked

-- a command on a structure file alone
abbrev pub alone : Command → List ℕ → Option Asked
alone c file = if is_option file then None else Some (asked.File c)

-- `check` on both files
abbrev pub both : List ℕ → List ℕ → Option Asked
both file agents = if is_option file || is_option agents then None else Some asked.Check

-- `check FILE` and `check FILE AGENTS`
abbrev pub check_of : List (List ℕ) → Option Asked
check_of (file ∷ []) = alone command.Check file
check_of (file ∷ agents ∷ []) = both file agents
check_of _ = None

-- `routes FILE`
abbrev pub routes_of : List (List ℕ) → Option Asked
routes_of (file ∷ []) = alone command.Routes file
routes_of _ = None

-- `structure FILE` and `structure --dot FILE`
abbrev pub structure_of : List (List ℕ) → Option Asked
structure_of words = option_map asked.Structure (form_of words)

-- the words that `run` takes before its files
abbrev pub is_choice : List ℕ → Bool
is_choice word = is_run_option word || bytes_eq word (codes "--audit")

-- the options and the files of `run`
abbrev pub chosen_of : List (List ℕ) → List ℕ → List ℕ → Option Asked
chosen_of chosen file agents =
    if is_option file || is_option agents then None
    else if list_all is_choice chosen then Some (asked.Run (options_in chosen) (has (codes "--audit") chosen))
    else None

abbrev pub run_with : List (List ℕ) → Option (List ℕ) → Option (List ℕ) → Option Asked
run_with chosen (Some file) (Some agents) = chosen_of chosen file agents
run_with chosen _ _ = None

-- the words after `run`: options in any order, each once or more, then the structure file and the agents file
abbrev pub run_of : List (List ℕ) → Option Asked
run_of words = run_with (words_before (words_before words)) (last_word (words_before words)) (last_word words)

-- the run of which a chart is asked for
abbrev pub chart_options : Request → Options
chart_options r = record { command = command.Run; serial = r.serial; ledger = false; trace = false }

-- the options and the files of `chart`
abbrev pub charted : List (List ℕ) → List ℕ → List ℕ → Option Asked
charted chosen file agents = if is_option file || is_option agents then None else option_map asked.Chart (request_of chosen)

abbrev pub chart_with : List (List ℕ) → Option (List ℕ) → Option (List ℕ) → Option Asked
chart_with chosen (Some file) (Some agents) = charted chosen file agents
chart_with chosen _ _ = None

-- the words after `chart`: its options, then the structure file and the agents file
abbrev pub chart_of : List (List ℕ) → Option Asked
chart_of words = chart_with (words_before (words_before words)) (last_word (words_before words)) (last_word words)

-- `check`, `routes`, `structure`, `run` or `chart`; all else is wrong
abbrev pub asked_of : List (List ℕ) → Option Asked
asked_of [] = None
asked_of (word ∷ words) =
    if bytes_eq word (codes "check") then check_of words
    else if bytes_eq word (codes "routes") then routes_of words
    else if bytes_eq word (codes "structure") then structure_of words
    else if bytes_eq word (codes "run") then run_of words
    else if bytes_eq word (codes "chart") then chart_of words
    else None
