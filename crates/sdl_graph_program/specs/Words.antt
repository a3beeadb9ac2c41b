-- The option `--audit`, which a designer's program alone has. (This project's own.)
use Rattle.std.specs.Prelude.{ℕ, Bool, false, if◌then◌else◌, List, [], ◌∷◌, ◌++◌, codes, bytes_eq}
use Rattle.std.specs.Option.{option_to_list}
use Rattle.sdl_app_command.specs.Arguments.{has, last_word, words_before}

-- options without it
abbrev pub options_without : List (List ℕ) → List (List ℕ)
options_without [] = []
options_without (word ∷ words) = if bytes_eq word (codes "--audit") then options_without words else word ∷ options_without words

-- the words behind a command without it: options, and last the file
abbrev pub without_audit : List (List ℕ) → List (List ℕ)
without_audit words = options_without (words_before words) ++ option_to_list (last_word words)

-- the words after the program's name without it, of which the first is the command
abbrev pub plain_words_of : List (List ℕ) → List (List ℕ)
plain_words_of [] = []
plain_words_of (word ∷ words) = word ∷ without_audit words

-- whether it stands among them
abbrev pub asks_for_audit : List (List ℕ) → Bool
asks_for_audit [] = false
asks_for_audit (word ∷ words) = has (codes "--audit") (words_before words)
