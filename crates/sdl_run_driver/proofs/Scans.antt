-- What a loop over a list has found so far.
use Rattle.std.proofs.Common.{ℕ, ◌+◌, ◌<◌, ◌≤◌, List, [], ◌∷◌, length, map, get_or, slice_get, ◌≡◌, inl, inr, Some, option_map, refl, ap, sym, ◌∙◌, subst, arith}
use Rattle.std.proofs.lemmas.Option.{same_Some, slice_get_read, slice_get_within, slice_get-map}
use Rattle.std.proofs.lemmas.List.{length-map}
use Rattle.sdl_run_driver.proofs.Rounds.{last}

module _ {X : Type 0} where
  pub read_at : (xs : List X) (i : ℕ) (x : X) → i < length xs → x ≡ get_or xs i x → slice_get xs i ≡ Some x
  read_at xs i x less is = slice_get_read xs (length xs) i x refl less is

  pub empty_of : (xs : List X) → length xs ≡ 0 → xs ≡ []
  empty_of [] e = refl
  empty_of (x ∷ xs) e = absurd (omega arith)

  -- what holds of the elements before a place and of the one there
  pub one_further : (P : X → Type 0) (xs : List X) (i : ℕ) (x : X) → slice_get xs i ≡ Some x → P x → ((n : ℕ) (y : X) → n < i → slice_get xs n ≡ Some y → P y)
      → (n : ℕ) (y : X) → n < i + 1 → slice_get xs n ≡ Some y → P y
  one_further P xs i x at here before n y less found = elim (last n i less) [
    | inl below ↦ before n y below found
    | inr same ↦ subst P (same_Some x y (sym at ∙ (ap (slice_get xs) (sym same) ∙ found))) here
  ]

  -- and of all, once the place is the end
  pub all_seen : (P : X → Type 0) (xs : List X) (i : ℕ) → length xs ≤ i → ((n : ℕ) (y : X) → n < i → slice_get xs n ≡ Some y → P y) → (n : ℕ) (y : X) → slice_get xs n ≡ Some y → P y
  all_seen P xs i past before n y found = let within = slice_get_within xs n y found in before n y (omega arith) found

pub mapped_at : {X Y : Type 0} (f : X → Y) (xs : List X) (i : ℕ) (x : X) → slice_get xs i ≡ Some x → slice_get (map f xs) i ≡ Some (f x)
mapped_at f xs i x at = slice_get-map f xs i ∙ ap (option_map f) at

-- the same where the loop is over a slice of the list
module _ {X Y : Type 0} (f : X → Y) (items slice : List X) (same : slice ≡ items) (i : ℕ) where
  pub mapped_in : (x : X) → i < length slice → x ≡ get_or slice i x → slice_get (map f items) i ≡ Some (f x)
  mapped_in x less is = mapped_at f items i x (subst (λ (xs : List X). slice_get xs i ≡ Some x) same (read_at slice i x less is))

  pub past_in : length slice ≤ i → length (map f items) ≤ i
  past_in past = let a = length-map items f in let b = ap length same in omega arith
