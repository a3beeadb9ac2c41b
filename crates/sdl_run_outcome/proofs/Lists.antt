-- Filters within filters, and what holds of each element.
use Rattle.std.proofs.Common.{ℕ, zero, suc, Bool, true, false, cond, Some, List, [], ◌∷◌, ◌++◌, map, length, set, slice_get, ◌≡◌, ◌≢◌, refl, ap, sym, ◌∙◌, subst}
use Rattle.std.proofs.lemmas.Option.{none-some, same_Some}
use Rattle.std.proofs.lemmas.Bool.{false≢true, cond_both}
use Rattle.std.specs.List.{filter, AllByRecursion}
pub use Rattle.sdl_forward_opening.proofs.Bringing.{all_at}
pub use Rattle.sdl_forward_opening.proofs.Opened.{all_weaker, all_filter}

pub all_front : {X : Type 0} (P : X → Type 0) (xs ys : List X) → AllByRecursion P (xs ++ ys) → AllByRecursion P xs
all_front P [] ys h = tt
all_front P (x ∷ xs) ys h = (h.0, all_front P xs ys h.1)

pub all_end : {X : Type 0} (P : X → Type 0) (xs ys : List X) → AllByRecursion P (xs ++ ys) → AllByRecursion P ys
all_end P [] ys h = h
all_end P (x ∷ xs) ys h = all_end P xs ys h.1

pub all_append : {X : Type 0} (P : X → Type 0) (xs ys : List X) → AllByRecursion P xs → AllByRecursion P ys → AllByRecursion P (xs ++ ys)
all_append P [] ys h k = k
all_append P (x ∷ xs) ys h k = (h.0, all_append P xs ys h.1 k)

pub all_every : {X : Type 0} (P : X → Type 0) → ((x : X) → P x) → (xs : List X) → AllByRecursion P xs
all_every P f [] = tt
all_every P f (x ∷ xs) = (f x, all_every P f xs)

pub all_both : {X : Type 0} (P Q : X → Type 0) (xs : List X) → AllByRecursion P xs → AllByRecursion Q xs → AllByRecursion (λ x. P x × Q x) xs
all_both P Q [] h k = tt
all_both P Q (x ∷ xs) h k = ((h.0, k.0), all_both P Q xs h.1 k.1)

pub all_map : {X Y : Type 0} (P : Y → Type 0) (f : X → Y) (xs : List X) → AllByRecursion (λ x. P (f x)) xs → AllByRecursion P (map f xs)
all_map P f [] h = tt
all_map P f (x ∷ xs) h = (h.0, all_map P f xs h.1)

pub all_passes : {X : Type 0} (test : X → Bool) (xs : List X) → AllByRecursion (λ x. test x ≡ true) (filter test xs)
all_passes test [] = tt
all_passes test (x ∷ xs) = cond_both (test x) (x ∷ filter test xs) (filter test xs) (AllByRecursion (λ y. test y ≡ true)) (λ e. (e, all_passes test xs)) (λ e. all_passes test xs)

-- a filter of what a weaker test lets through; f is what is read of each element
within_step : {X Y : Type 0} (p : Y → Bool) (f : X → Y) (x : X) (b c : Bool) (xs : List X) (ys : List Y) → (c ≡ true → b ≡ true) → p (f x) ≡ c → filter p (map f xs) ≡ ys
    → filter p (map f (cond b (x ∷ xs) xs)) ≡ cond c (f x ∷ ys) ys
within_step p f x true c xs ys h e g = subst (λ (d : Bool). cond d (f x ∷ filter p (map f xs)) (filter p (map f xs)) ≡ cond c (f x ∷ ys) ys) (sym e) (ap (λ (zs : List _). cond c (f x ∷ zs) zs) g)
within_step p f x false true xs ys h e g = absurd (false≢true (h refl))
within_step p f x false false xs ys h e g = g

pub filter_within : {X Y : Type 0} (p : Y → Bool) (f : X → Y) (test : X → Bool) (xs : List X) → AllByRecursion (λ x. p (f x) ≡ true → test x ≡ true) xs
    → filter p (map f (filter test xs)) ≡ filter p (map f xs)
filter_within p f test [] h = refl
filter_within p f test (x ∷ xs) h = within_step p f x (test x) (p (f x)) (filter test xs) (filter p (map f xs)) h.0 refl (filter_within p f test xs h.1)

pub filter_none : {X : Type 0} (test : X → Bool) (xs : List X) → AllByRecursion (λ x. test x ≡ true → ⊥) xs → filter test xs ≡ []
filter_none test [] h = refl
filter_none test (x ∷ xs) h = cond_both (test x) (x ∷ filter test xs) (filter test xs) (λ ys. ys ≡ []) (λ e. absurd (h.0 e)) (λ e. filter_none test xs h.1)

-- a filter by tests that agree
pub filter_agrees : {X : Type 0} (p q : X → Bool) → ((x : X) → p x ≡ q x) → (xs : List X) → filter p xs ≡ filter q xs
filter_agrees p q f [] = refl
filter_agrees p q f (x ∷ xs) =
    ap (λ (b : Bool). cond b (x ∷ filter p xs) (filter p xs)) (f x) ∙ ap (λ (ys : List _). cond (q x) (x ∷ ys) ys) (filter_agrees p q f xs)

-- an element is replaced
pub get_set : {X : Type 0} (xs : List X) (n : ℕ) (x y : X) → slice_get xs n ≡ Some x → slice_get (set xs n y) n ≡ Some y
get_set [] n x y e = absurd (none-some x e)
get_set (z ∷ zs) zero x y e = refl
get_set (z ∷ zs) (suc n) x y e = get_set zs n x y e

pub get_set_other : {X : Type 0} (xs : List X) (n m : ℕ) (y : X) → m ≢ n → slice_get (set xs n y) m ≡ slice_get xs m
get_set_other [] n m y h = refl
get_set_other (z ∷ zs) zero zero y h = absurd (h refl)
get_set_other (z ∷ zs) zero (suc m) y h = refl
get_set_other (z ∷ zs) (suc n) zero y h = refl
get_set_other (z ∷ zs) (suc n) (suc m) y h = get_set_other zs n m y (λ e. h (ap suc e))

pub set_same : {X : Type 0} (xs : List X) (n : ℕ) (x : X) → slice_get xs n ≡ Some x → set xs n x ≡ xs
set_same [] n x e = absurd (none-some x e)
set_same (z ∷ zs) zero x e = ap (λ y. y ∷ zs) (sym (same_Some z x e))
set_same (z ∷ zs) (suc n) x e = ap (λ ys. z ∷ ys) (set_same zs n x e)

pub length_set : {X : Type 0} (xs : List X) (n : ℕ) (y : X) → length (set xs n y) ≡ length xs
length_set [] n y = refl
length_set (z ∷ zs) zero y = refl
length_set (z ∷ zs) (suc n) y = ap suc (length_set zs n y)

pub map_set : {X Y : Type 0} (f : X → Y) (xs : List X) (n : ℕ) (x y : X) → slice_get xs n ≡ Some x → f y ≡ f x → map f (set xs n y) ≡ map f xs
map_set f [] n x y e g = refl
map_set f (z ∷ zs) zero x y e g = ap (λ v. v ∷ map f zs) (g ∙ ap f (sym (same_Some z x e)))
map_set f (z ∷ zs) (suc n) x y e g = ap (λ vs. f z ∷ vs) (map_set f zs n x y e g)
