-- A list with one element more, and a list with one element changed, read at a place.
use Rattle.std.proofs.Common.{◌≡◌, ◌⊎◌, ℕ, zero, suc, ◌<◌, List, [], ◌∷◌, ◌++◌, length, set, slice_get, Option, None, Some, refl, ap, sym, inl, inr, arith}
use Rattle.std.specs.Prelude.{IsSome}
use Rattle.std.proofs.lemmas.Option.{same_Some, none-some}

pub get_kept : {X : Type 0} (xs more : List X) (k : ℕ) (x : X) → slice_get xs k ≡ Some x → slice_get (xs ++ more) k ≡ Some x
get_kept [] more k x h = absurd (none-some x h)
get_kept (y ∷ ys) more zero x h = h
get_kept (y ∷ ys) more (suc k) x h = get_kept ys more k x h

pub get_last : {X : Type 0} (xs : List X) (x : X) → slice_get (xs ++ x ∷ []) (length xs) ≡ Some x
get_last [] x = refl
get_last (y ∷ ys) x = get_last ys x

pub get_cases : {X : Type 0} (xs : List X) (x : X) (k : ℕ) (y : X) → slice_get (xs ++ x ∷ []) k ≡ Some y → (slice_get xs k ≡ Some y) ⊎ ((k ≡ length xs) × (y ≡ x))
get_cases [] x zero y h = inr (refl, sym (same_Some x y h))
get_cases [] x (suc k) y h = absurd (none-some y h)
get_cases (z ∷ zs) x zero y h = inl h
get_cases (z ∷ zs) x (suc k) y h = elim (get_cases zs x k y h) [ inl e ↦ inl e | inr e ↦ inr (ap suc e.0, e.1) ]

pub set_cases : {X : Type 0} (xs : List X) (n : ℕ) (x : X) (k : ℕ) (y : X) → slice_get (set xs n x) k ≡ Some y → (slice_get xs k ≡ Some y) ⊎ ((k ≡ n) × (k < length xs) × (y ≡ x))
set_cases [] n x k y h = absurd (none-some y h)
set_cases (z ∷ zs) zero x zero y h = inr (refl, omega arith, sym (same_Some x y h))
set_cases (z ∷ zs) zero x (suc k) y h = inl h
set_cases (z ∷ zs) (suc n) x zero y h = inl h
set_cases (z ∷ zs) (suc n) x (suc k) y h = elim (set_cases zs n x k y h) [ inl e ↦ inl e | inr e ↦ inr (ap suc e.0, omega (arith, e.1), e.2) ]

pub get_set_other : {X : Type 0} (xs : List X) (n : ℕ) (x : X) (k : ℕ) → (k ≡ n → ⊥) → slice_get (set xs n x) k ≡ slice_get xs k
get_set_other [] n x k h = refl
get_set_other (z ∷ zs) zero x zero h = absurd (h refl)
get_set_other (z ∷ zs) zero x (suc k) h = refl
get_set_other (z ∷ zs) (suc n) x zero h = refl
get_set_other (z ∷ zs) (suc n) x (suc k) h = get_set_other zs n x k (λ e. h (ap suc e))

pub get_set_same : {X : Type 0} (xs : List X) (n : ℕ) (x : X) (k : ℕ) (y : X) → k ≡ n → slice_get xs k ≡ Some y → slice_get (set xs n x) k ≡ Some x
get_set_same [] n x k y e h = absurd (none-some y h)
get_set_same (z ∷ zs) zero x zero y e h = refl
get_set_same (z ∷ zs) zero x (suc k) y e h = absurd (omega (arith, e))
get_set_same (z ∷ zs) (suc n) x zero y e h = absurd (omega (arith, e))
get_set_same (z ∷ zs) (suc n) x (suc k) y e h = get_set_same zs n x k y (omega (arith, e)) h

pub some_of : {X : Type 0} (o : Option X) → IsSome o → (x : X) × (o ≡ Some x)
some_of None h = absurd cc
some_of (Some x) h = (x, refl)
