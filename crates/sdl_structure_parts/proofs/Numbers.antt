-- What holds of the parts below a number, and of the parts of a structure at a number.
use Rattle.std.proofs.Common.{◌≡◌, ℕ, suc, ◌<◌, ◌≤◌, List, length, Option, Some, slice_get, IfSome, IsSomeAnd, ◌⊎◌, inl, inr, ap, sym, ◌∙◌, subst, arith}
use Rattle.std.proofs.lemmas.Option.{slice_get_past}

pub less_cases : (n i : ℕ) → n < suc i → (n < i) ⊎ (n ≡ i)
less_cases n i h = grind arith

pub below_or_past : (n i : ℕ) → (n < i) ⊎ (i ≤ n)
below_or_past n i = grind arith

pub at_same : {X : Type 0} (P : X → Type 0) (xs : List X) (n i : ℕ) (x : X) → slice_get xs i ≡ Some x → n ≡ i → P x → IfSome (slice_get xs n) P
at_same P xs n i x at same h = subst (λ (o : Option _). IfSome o P) (sym (ap (λ k. slice_get xs k) same ∙ at)) h

pub all_places : {X : Type 0} (P : X → Type 0) (xs : List X) → ((n : ℕ) → n < length xs → IfSome (slice_get xs n) P) → (n : ℕ) → IfSome (slice_get xs n) P
all_places P xs below n =
    elim (below_or_past n (length xs)) [
      | inl lt ↦ below n lt
      | inr past ↦ subst (λ (o : Option _). IfSome o P) (sym (slice_get_past xs n past)) tt
    ]

pub some_at : {X : Type 0} (P : X → Type 0) (o : Option X) (x : X) → o ≡ Some x → P x → IsSomeAnd o P
some_at P o x at h = subst (λ (o : Option _). IsSomeAnd o P) (sym at) h

pub below_more_at : {X : Type 0} (P : X → Type 0) (xs : List X) (i : ℕ) (x : X) → slice_get xs i ≡ Some x → P x
    → ((n : ℕ) → n < i → IfSome (slice_get xs n) P) → (n : ℕ) → n < suc i → IfSome (slice_get xs n) P
below_more_at P xs i x at h below n lt =
    elim (less_cases n i lt) [ inl less ↦ below n less | inr same ↦ at_same P xs n i x at same h ]

pub below_more_of : (P : ℕ → Type 0) (i : ℕ) → ((n : ℕ) → n < i → P n) → P i → (n : ℕ) → n < suc i → P n
below_more_of P i below h n lt =
    elim (less_cases n i lt) [ inl less ↦ below n less | inr same ↦ subst P (sym same) h ]
