-- Transitions that move from a list to behaviours.
use Rattle.std.proofs.Common.{◌≡◌, ◌-◌, ◌≤◌, refl, ℕ, Bool, false, not, if◌then◌else◌, Result, is_ok, List, [], ◌∷◌, ◌++◌, map, length, take, drop, get_or, ap, sym, ◌∙◌, append_assoc, arith}
use Rattle.std.proofs.lemmas.Grind.{common_steps}
use Rattle.std.proofs.lemmas.List.{append-nil}
use Rattle.sdl_transition_behaviour.specs.declared.transition.Transition.{Transition}
use Rattle.sdl_transition_behaviour.specs.declared.behaviour.Behaviour.{Behaviour}
use Rattle.sdl_transition_behaviour.specs.declared.behaviour.Row.{Row}
use Rattle.sdl_graph_binding.specs.Transitions.{transitions_in, all_transitions}

-- a push that did not fail took place
pub pushed : {A T E : Type 0} (r : Result T E) (failed : Bool) (old new : List A) (a : A)
    → new ≡ (if is_ok r then old ++ a ∷ [] else old) → is_ok r ≡ not failed → failed ≡ false → new ≡ old ++ a ∷ []
pushed r failed old new a items ok none = items ∙ ap (λ (b : Bool). if b then old ++ a ∷ [] else old) (ok ∙ ap not none)

-- an element behind the others
pub map_last : {A B : Type 0} (f : A → B) (l : List A) (a : A) → map f (l ++ a ∷ []) ≡ map f l ++ f a ∷ []
map_last f [] a = refl
map_last f (x ∷ l) a = ap (λ m. f x ∷ m) (map_last f l a)

-- the names of states, one after the other
pub states_on : {A B C : Type 0} (f : A → C) (g : B → C) (all more made : List A) (b : A) (texts rest : List B) (d : B)
    → map f all ≡ map f more ++ map g rest → more ≡ made ++ b ∷ [] → f b ≡ g d → texts ≡ d ∷ rest → map f all ≡ map f made ++ map g texts
states_on f g all more made b texts rest d next last same first =
    next ∙ ap (λ l. map f l ++ map g rest) last ∙ ap (λ l. l ++ map g rest) (map_last f made b)
    ∙ append_assoc (map f made) (f b ∷ []) (map g rest) ∙ ap (λ c. map f made ++ c ∷ map g rest) same ∙ ap (λ l. map f made ++ map g l) (sym first)

-- a set behind the others
pub set_last : {A C : Type 0} (f : A → C) (all made : List A) (b : A) (d : C) → all ≡ made ++ b ∷ [] → f b ≡ d → map f all ≡ map f made ++ d ∷ []
set_last f all made b d last same = ap (λ l. map f l) last ∙ map_last f made b ∙ ap (λ c. map f made ++ c ∷ []) same

-- the first of a list that has one, and the others
pub first_and_rest : {A : Type 0} (l : List A) (d : A) → 1 ≤ length l → l ≡ get_or l 0 d ∷ take (length l - 1) (drop 1 l)
first_and_rest l d one = grind (arith, common_steps)

-- what a design has, one after the other
pub uses_on : {A B C : Type 0} (f : A → C) (g : B → C) (all more made : List A) (b : B) (uses rest : List B)
    → map f all ≡ map f more ++ map g rest → map f more ≡ map f made ++ g b ∷ [] → uses ≡ b ∷ rest → map f all ≡ map f made ++ map g uses
uses_on f g all more made b uses rest next last first =
    next ∙ ap (λ l. l ++ map g rest) last ∙ append_assoc (map f made) (g b ∷ []) (map g rest) ∙ ap (λ l. map f made ++ map g l) (sym first)

-- what the states of a design save, one after the other
pub saves_on : {A C : Type 0} (f : A → C) (all more made : List A) (save : C) (saves rest : List C)
    → map f all ≡ map f more ++ rest → map f more ≡ map f made ++ save ∷ [] → saves ≡ save ∷ rest → map f all ≡ map f made ++ saves
saves_on f all more made save saves rest next last first =
    next ∙ ap (λ l. l ++ rest) last ∙ append_assoc (map f made) (save ∷ []) rest ∙ ap (λ l. map f made ++ l) (sym first)

module _ {S I : Type 0} {F : I → Type 0} {g : _} where
  -- a behaviour behind the others
  pub transitions_last : (made : List (Behaviour S I F g)) (b : Behaviour S I F g) → all_transitions (made ++ b ∷ []) ≡ all_transitions made ++ transitions_in b
  transitions_last [] b = append-nil (transitions_in b)
  transitions_last (x ∷ made) b = ap (λ l. transitions_in x ++ l) (transitions_last made b) ∙ sym (append_assoc (transitions_in x) (all_transitions made) (transitions_in b))

  -- the transitions of the behaviours, of which the last has the first that were left
  pub taken_last : (all made : List (Behaviour S I F g)) (b : Behaviour S I F g) (rest old : List (Transition S I F g))
      → all ≡ made ++ b ∷ [] → transitions_in b ++ rest ≡ old → all_transitions all ++ rest ≡ all_transitions made ++ old
  taken_last all made b rest old last own =
      ap (λ l. all_transitions l ++ rest) last ∙ ap (λ l. l ++ rest) (transitions_last made b)
      ∙ append_assoc (all_transitions made) (transitions_in b) rest ∙ ap (λ l. all_transitions made ++ l) own

  -- the numbers of transitions, with one more
  pub number_last : (all made : List (Transition S I F g)) (t : Transition S I F g) (number : ℕ)
      → all ≡ made ++ t ∷ [] → t.number ≡ number → map (λ s. s.number) all ≡ map (λ s. s.number) made ++ number ∷ []
  number_last all made t number last same = set_last (λ s. s.number) all made t number last same

  -- a row for the first of the transitions that were left, and then more rows
  pub rows_on : (last longer b : Behaviour S I F g) (row : Row S I F g) (left rest old : List (Transition S I F g))
      → transitions_in last ++ left ≡ transitions_in longer ++ rest → longer ≡ record b { rows = longer.rows }
      → longer.rows.items ≡ b.rows.items ++ row ∷ [] → old ≡ row.transition ∷ rest → transitions_in last ++ left ≡ transitions_in b ++ old
  rows_on last longer b row left rest old more same added first =
      let rows : map (λ r. r.transition) longer.rows.items ≡ map (λ r. r.transition) b.rows.items ++ row.transition ∷ [] =
      ap (λ l. map (λ r. r.transition) l) added ∙ map_last (λ r. r.transition) b.rows.items row in
      more ∙ ap (λ t. t ∷ map (λ r. r.transition) longer.rows.items ++ rest) (ap (λ x. x.start) same)
      ∙ ap (λ l. b.start ∷ l ++ rest) rows ∙ ap (λ l. b.start ∷ l) (append_assoc (map (λ r. r.transition) b.rows.items) (row.transition ∷ []) rest)
      ∙ ap (λ l. transitions_in b ++ l) (sym first)
