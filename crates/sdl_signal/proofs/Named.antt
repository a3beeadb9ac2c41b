-- Names in a list: where the first of a name stands.
use Rattle.std.proofs.Common.{◌≡◌, ℕ, zero, suc, ◌<◌, ◌≤◌, Bool, true, false, cond, ◌⊎◌, List, [], ◌∷◌, length, get_or, map, Option, Some, None, refl, sym, ap, ◌∙◌, inl, inr, bytes_eq, arith}
use Rattle.std.specs.List.{position, position_or_len, find, Contains, slice_get}
use Rattle.std.specs.Option.{option_map}
use Rattle.std.proofs.lemmas.Grind.{common_steps}
use Rattle.std.proofs.lemmas.Bool.{false≢true, cases_lt}
use Rattle.std.proofs.lemmas.Slice.Eq.{bytes_eq-Decides}
use Rattle.std.proofs.lemmas.List.Quantifiers.{position-Some}
use Rattle.std.proofs.lemmas.List.Sums.{fails_before_first}
use Rattle.std.proofs.lemmas.Option.{slice_get-map, slice_get-get_or, slice_get_past, slice_get_within, get_or_from_slice_get, same_Some, none-some}
use Rattle.std.proofs.lemmas.Iterator.Adapters.{option_map_id}
use Rattle.sdl_signal.specs.Reading.{IsFirstNamed, IsNamedAt, IsNowhere, AreDistinct}

-- a test of a text is true or false
same_by_test : (a b : List ℕ) (t : Bool) → bytes_eq a b ≡ t → (a ≡ b) ⊎ (bytes_eq a b ≡ false)
same_by_test a b true e = inl ((bytes_eq-Decides a b).0 e)
same_by_test a b false e = inr e

pub same_or_not : (a b : List ℕ) → (a ≡ b) ⊎ (bytes_eq a b ≡ false)
same_or_not a b = same_by_test a b (bytes_eq a b) refl

pub bytes_eq-same : (a b : List ℕ) → a ≡ b → bytes_eq a b ≡ true
bytes_eq-same a b e = (bytes_eq-Decides a b).1 e

module _ {A : Type 0} (name : A → List ℕ) where
  named_at_some : (xs : List A) (text : List ℕ) (d : A) (i : ℕ) → position (λ x. bytes_eq (name x) text) xs ≡ Some i → IsNamedAt name xs text i
  named_at_some xs text d i e =
      let p = position-Some (λ x. bytes_eq (name x) text) xs i d e in
      let at = ap (option_map name) (slice_get-get_or xs i d p.0) ∙ ap Some ((bytes_eq-Decides (name (get_or xs i d)) text).0 p.1) in (
        at,
        λ k lt same.
            let inside : k < length xs = omega (arith, p.0) in
            false≢true (sym (p.2 k lt) ∙ bytes_eq-same (name (get_or xs k d)) text (same_Some (name (get_or xs k d)) text (sym (ap (option_map name) (slice_get-get_or xs k d inside)) ∙ same ∙ at))),
      )

  pub named_from_position : (xs : List A) (text : List ℕ) (i : ℕ) → position (λ x. bytes_eq (name x) text) xs ≡ Some i → IsNamedAt name xs text i
  named_from_position [] text i e = absurd (none-some i e)
  named_from_position (x ∷ xs) text i e = named_at_some (x ∷ xs) text x i e

  fails_everywhere : (p : A → Bool) (xs : List A) (k : ℕ) (d : A) → position p xs ≡ None → k < length xs → p (get_or xs k d) ≡ false
  fails_everywhere p xs k d e lt =
      let past : length xs ≤ position_or_len p xs = grind (arith, common_steps) in
      fails_before_first p xs k d (omega arith)

  pub nowhere_from_position : (xs : List A) (text : List ℕ) → position (λ x. bytes_eq (name x) text) xs ≡ None → IsNowhere name xs text
  nowhere_from_position [] text e i same = none-some text same
  nowhere_from_position (x ∷ xs) text e i same =
      let past = λ (h : length (x ∷ xs) ≤ i). none-some text (sym (ap (option_map name) (slice_get_past (x ∷ xs) i h)) ∙ same) in
      let within = λ (h : i < length (x ∷ xs)).
      let n = name (get_or (x ∷ xs) i x) in
      false≢true (sym (fails_everywhere (λ y. bytes_eq (name y) text) (x ∷ xs) i x e h) ∙ bytes_eq-same n text (same_Some n text (sym (ap (option_map name) (slice_get-get_or (x ∷ xs) i x h)) ∙ same))) in
      elim (cases_lt i (length (x ∷ xs))) [ inl h ↦ within h | inr h ↦ past h ]

  -- the first of a name is one
  pub first_is_one : (xs : List A) (i j : ℕ) → option_map name (slice_get xs i) ≡ option_map name (slice_get xs j) → IsFirstNamed name xs i → IsFirstNamed name xs j → i ≡ j
  first_is_one xs i j e hi hj =
      elim (cases_lt i j) [ inl h ↦ absurd (hj i h e) | inr h ↦ elim (cases_lt j i) [ inl k ↦ absurd (hi j k (sym e)) | inr k ↦ omega arith ] ]

  pub find_named : (xs : List A) (text : List ℕ) (i : ℕ) → IsNamedAt name xs text i → find (λ x. bytes_eq (name x) text) xs ≡ slice_get xs i
  find_named [] text i h = refl
  find_named (x ∷ xs) text zero h = ap (λ b. cond b (Some x) (find (λ y. bytes_eq (name y) text) xs)) (bytes_eq-same (name x) text (same_Some (name x) text h.0))
  find_named (x ∷ xs) text (suc i) h =
      elim (same_or_not (name x) text) [
        | inl e ↦ absurd (h.1 0 (omega arith) (ap Some e ∙ sym h.0))
        | inr e ↦ ap (λ b. cond b (Some x) (find (λ y. bytes_eq (name y) text) xs)) e ∙ find_named xs text i (h.0, λ k lt. h.1 (suc k) (omega arith))
      ]

  pub find_nowhere : (xs : List A) (text : List ℕ) → IsNowhere name xs text → find (λ x. bytes_eq (name x) text) xs ≡ None
  find_nowhere [] text h = refl
  find_nowhere (x ∷ xs) text h =
      elim (same_or_not (name x) text) [
        | inl e ↦ absurd (h 0 (ap Some e))
        | inr e ↦ ap (λ b. cond b (Some x) (find (λ y. bytes_eq (name y) text) xs)) e ∙ find_nowhere xs text (λ i. h (suc i))
      ]

module _ {A B : Type 0} (f : A → B) (name : B → List ℕ) where
  option_map-map : (o : Option A) → option_map name (option_map f o) ≡ option_map (λ x. name (f x)) o
  option_map-map None = refl
  option_map-map (Some x) = refl

  name_of_map : (xs : List A) (i : ℕ) → option_map name (slice_get (map f xs) i) ≡ option_map (λ x. name (f x)) (slice_get xs i)
  name_of_map xs i = ap (option_map name) (slice_get-map f xs i) ∙ option_map-map (slice_get xs i)

  pub named_in_map : (xs : List A) (text : List ℕ) (i : ℕ) → IsNamedAt (λ x. name (f x)) xs text i → IsNamedAt name (map f xs) text i
  named_in_map xs text i h = (name_of_map xs i ∙ h.0, λ k lt same. h.1 k lt (sym (name_of_map xs k) ∙ same ∙ name_of_map xs i))

  pub nowhere_in_map : (xs : List A) (text : List ℕ) → IsNowhere (λ x. name (f x)) xs text → IsNowhere name (map f xs) text
  nowhere_in_map xs text h i same = h i (sym (name_of_map xs i) ∙ same)

pub nowhere_not_in : (xs : List (List ℕ)) (text : List ℕ) → IsNowhere (λ n. n) xs text → ¬ Contains xs text
nowhere_not_in xs text h (k, lt, e) = h k (option_map_id (slice_get xs k) ∙ slice_get-get_or xs k text lt ∙ ap Some e)

pub contains_at : (xs : List (List ℕ)) (text : List ℕ) (i : ℕ) → slice_get xs i ≡ Some text → Contains xs text
contains_at xs text i e = (i, slice_get_within xs i text e, get_or_from_slice_get xs i text text e)

-- where no two names are equal, each element is the first of its name
pub first_if_distinct : {A : Type 0} (name : A → List ℕ) (xs : List A) (i : ℕ) (x : A) → AreDistinct name xs → slice_get xs i ≡ Some x → IsFirstNamed name xs i
first_if_distinct name xs i x h e = h i (slice_get_within xs i x e)
