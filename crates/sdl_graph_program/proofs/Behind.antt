-- The words behind a command, of which the last names the file.
use Rattle.std.proofs.Common.{◌≡◌, ℕ, List, [], ◌∷◌, ◌++◌, Some, Bor, map, refl, ap, sym, ◌∙◌, append_assoc}
use Rattle.std.specs.Option.{option_to_list}
use Rattle.std.proofs.lemmas.List.{map-append}
use Rattle.sdl_app_command.specs.Arguments.{last_word, words_before}
use Rattle.sdl_graph_program.specs.Words.{options_without, without_audit}

last_behind : (words : List (List ℕ)) (file : List ℕ) → last_word (words ++ file ∷ []) ≡ Some file
last_behind [] file = refl
last_behind (word ∷ []) file = refl
last_behind (word ∷ next ∷ words) file = last_behind (next ∷ words) file

before_last : (words : List (List ℕ)) (file : List ℕ) → words_before (words ++ file ∷ []) ≡ words
before_last [] file = refl
before_last (word ∷ []) file = refl
before_last (word ∷ next ∷ words) file = ap (λ ws. word ∷ ws) (before_last (next ∷ words) file)

abbrev now : Bor (List ℕ) → List ℕ
now w = w.now

shown : (words chosen : List (Bor (List ℕ))) (file : Bor (List ℕ)) → words ≡ chosen ++ file ∷ [] → map now words ≡ map now chosen ++ file.now ∷ []
shown words chosen file h = ap (map now) h ∙ map-append now chosen (file ∷ [])

-- those before the last
pub before : (words chosen : List (Bor (List ℕ))) (file : Bor (List ℕ)) → words ≡ chosen ++ file ∷ [] → words_before (map (λ w. w.now) words) ≡ map (λ w. w.now) chosen
before words chosen file h = ap words_before (shown words chosen file h) ∙ before_last (map now chosen) file.now

-- the options and the file are added one after another
pub both_added : (words chosen old some : List (Bor (List ℕ))) (file : Bor (List ℕ)) → words ≡ chosen ++ file ∷ []
    → map (λ w. w.now) some ≡ map (λ w. w.now) old ++ options_without (map (λ w. w.now) chosen)
    → map (λ w. w.now) (some ++ file ∷ []) ≡ map (λ w. w.now) old ++ without_audit (map (λ w. w.now) words)
both_added words chosen old some file h e =
    map-append now some (file ∷ [])
    ∙ (ap (λ ws. ws ++ file.now ∷ []) e
    ∙ (append_assoc (map now old) (options_without (map now chosen)) (file.now ∷ [])
    ∙ ap (λ ws. map now old ++ ws) (sym (
    ap (λ ws. options_without ws ++ option_to_list (last_word (map now words))) (before words chosen file h)
    ∙ ap (λ last. options_without (map now chosen) ++ option_to_list last) (ap last_word (shown words chosen file h) ∙ last_behind (map now chosen) file.now)))))

-- an option more is added
pub one_added : (old some more : List (Bor (List ℕ))) (word : Bor (List ℕ)) (rest : List (List ℕ)) → some ≡ old ++ word ∷ []
    → map (λ w. w.now) more ≡ map (λ w. w.now) some ++ rest → map (λ w. w.now) more ≡ map (λ w. w.now) old ++ word.now ∷ rest
one_added old some more word rest h e =
    e
    ∙ (ap (λ ws. map now ws ++ rest) h
    ∙ (ap (λ ws. ws ++ rest) (map-append now old (word ∷ [])) ∙ append_assoc (map now old) (word.now ∷ []) rest))
