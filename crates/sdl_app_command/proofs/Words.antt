-- The words after `run`: the last, and those before it.
use Rattle.std.proofs.Common.{◌≡◌, ℕ, List, [], ◌∷◌, ◌++◌, Some, Bor, map, length, refl, ap, sym, ◌∙◌}
use Rattle.std.proofs.lemmas.List.{map-append, length-map}
use Rattle.sdl_app_command.specs.Arguments.{last_word, words_before, run_file_arguments, run_arguments_of, chosen_arguments_of}

last_word-behind : (words : List (List ℕ)) (file : List ℕ) → last_word (words ++ file ∷ []) ≡ Some file
last_word-behind [] file = refl
last_word-behind (word ∷ []) file = refl
last_word-behind (word ∷ next ∷ words) file = last_word-behind (next ∷ words) file

words_before-file : (words : List (List ℕ)) (file : List ℕ) → words_before (words ++ file ∷ []) ≡ words
words_before-file [] file = refl
words_before-file (word ∷ []) file = refl
words_before-file (word ∷ next ∷ words) file = ap (λ ws. word ∷ ws) (words_before-file (next ∷ words) file)

arguments_before : (words : List (List ℕ)) (file : List ℕ) → run_arguments_of (words ++ file ∷ []) ≡ chosen_arguments_of words file (length (words ++ file ∷ []))
arguments_before words file =
    let all : List (List ℕ) = words ++ file ∷ [] in
    ap (run_file_arguments (words_before all) (length all)) (last_word-behind words file)
    ∙ ap (λ chosen. chosen_arguments_of chosen file (length all)) (words_before-file words file)

pub run_arguments-split : (words chosen : List (Bor (List ℕ))) (file : Bor (List ℕ)) → words ≡ chosen ++ file ∷ []
    → run_arguments_of (map (λ w. w.now) words) ≡ chosen_arguments_of (map (λ w. w.now) chosen) file.now (length words)
run_arguments-split words chosen file h =
    let now : Bor (List ℕ) → List ℕ = λ w. w.now in
    let shown : map now words ≡ map now chosen ++ file.now ∷ [] = ap (map now) h ∙ map-append now chosen (file ∷ []) in
    let size : length (map now chosen ++ file.now ∷ []) ≡ length words = ap length (sym shown) ∙ length-map words now in
    ap run_arguments_of shown ∙ arguments_before (map now chosen) file.now ∙ ap (λ n. chosen_arguments_of (map now chosen) file.now n) size
