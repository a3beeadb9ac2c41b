-- The words after `run`, of which the last two name the files.
use Rattle.std.proofs.Common.{◌≡◌, ℕ, List, [], ◌∷◌, ◌++◌, Some, Bor, map, refl, ap, ◌∙◌}
use Rattle.std.proofs.lemmas.List.{map-append}
use Rattle.sdl_app_command.specs.Arguments.{last_word, words_before}
use Rattle.sdl_simulator.specs.Words.{run_of, run_with, chosen_of, chart_of, chart_with, charted}

last_behind : (words : List (List ℕ)) (file : List ℕ) → last_word (words ++ file ∷ []) ≡ Some file
last_behind [] file = refl
last_behind (word ∷ []) file = refl
last_behind (word ∷ next ∷ words) file = last_behind (next ∷ words) file

before_last : (words : List (List ℕ)) (file : List ℕ) → words_before (words ++ file ∷ []) ≡ words
before_last [] file = refl
before_last (word ∷ []) file = refl
before_last (word ∷ next ∷ words) file = ap (λ ws. word ∷ ws) (before_last (next ∷ words) file)

run_behind : (chosen : List (List ℕ)) (file agents : List ℕ) → run_of ((chosen ++ file ∷ []) ++ agents ∷ []) ≡ chosen_of chosen file agents
run_behind chosen file agents =
    let front : List (List ℕ) = chosen ++ file ∷ [] in
    let all : List (List ℕ) = front ++ agents ∷ [] in
    ap (λ fs. run_with (words_before fs) (last_word fs) (last_word all)) (before_last front agents)
    ∙ (ap (λ cs. run_with cs (last_word front) (last_word all)) (before_last chosen file)
    ∙ (ap (λ f. run_with chosen f (last_word all)) (last_behind chosen file)
    ∙ ap (λ a. run_with chosen (Some file) a) (last_behind front agents)))

abbrev now : Bor (List ℕ) → List ℕ
now w = w.now

-- the options and both files
pub run_split : (words front chosen : List (Bor (List ℕ))) (file agents : Bor (List ℕ)) → words ≡ front ++ agents ∷ [] → front ≡ chosen ++ file ∷ []
    → run_of (map (λ w. w.now) words) ≡ chosen_of (map (λ w. w.now) chosen) file.now agents.now
run_split words front chosen file agents h k =
    let both : map now words ≡ map now front ++ agents.now ∷ [] = ap (map now) h ∙ map-append now front (agents ∷ []) in
    let first : map now front ≡ map now chosen ++ file.now ∷ [] = ap (map now) k ∙ map-append now chosen (file ∷ []) in
    ap run_of (both ∙ ap (λ fs. fs ++ agents.now ∷ []) first) ∙ run_behind (map now chosen) file.now agents.now

chart_behind : (chosen : List (List ℕ)) (file agents : List ℕ) → chart_of ((chosen ++ file ∷ []) ++ agents ∷ []) ≡ charted chosen file agents
chart_behind chosen file agents =
    let front : List (List ℕ) = chosen ++ file ∷ [] in
    let all : List (List ℕ) = front ++ agents ∷ [] in
    ap (λ fs. chart_with (words_before fs) (last_word fs) (last_word all)) (before_last front agents)
    ∙ (ap (λ cs. chart_with cs (last_word front) (last_word all)) (before_last chosen file)
    ∙ (ap (λ f. chart_with chosen f (last_word all)) (last_behind chosen file)
    ∙ ap (λ a. chart_with chosen (Some file) a) (last_behind front agents)))

-- the options of a chart and both files
pub chart_split : (words front chosen : List (Bor (List ℕ))) (file agents : Bor (List ℕ)) → words ≡ front ++ agents ∷ [] → front ≡ chosen ++ file ∷ []
    → chart_of (map (λ w. w.now) words) ≡ charted (map (λ w. w.now) chosen) file.now agents.now
chart_split words front chosen file agents h k =
    let both : map now words ≡ map now front ++ agents.now ∷ [] = ap (map now) h ∙ map-append now front (agents ∷ []) in
    let first : map now front ≡ map now chosen ++ file.now ∷ [] = ap (map now) k ∙ map-append now chosen (file ∷ []) in
    ap chart_of (both ∙ ap (λ fs. fs ++ agents.now ∷ []) first) ∙ chart_behind (map now chosen) file.now agents.now
