-- Lists of tagged items, by feeder; and a function changed at one number.
use Rattle.std.proofs.Common.{◌≡◌, ◌≢◌, ℕ, zero, suc, ◌+◌, ◌≤◌, ◌⊎◌, Bool, cond, List, [], ◌∷◌, ◌++◌, length, drop, map, filter, sym, refl, ap, ◌∙◌, inl, inr, ⊎_elim, eq-eqb, ne_eqb, nat_eq, append-nil, arith, length-append}
use mathlib.Core.Option.{some, some-injective, some-ne-none}
use mathlib.Core.List.{map-append}
use lib.ListN.{get_elem?}
use Rattle.std.specs.List.{AllByRecursion}
use Rattle.std.proofs.lemmas.List.Elements.{filter-append}
use Rattle.sdl_queue.specs.declared.rule.Tagged.{Tagged}
use Rattle.sdl_queue.specs.DelayLine.{items_by}

pub items_by-append : (f : ℕ) (xs ys : List Tagged) → items_by f (xs ++ ys) ≡ items_by f xs ++ items_by f ys
items_by-append f xs ys = ap (map (λ (t : Tagged). t.item)) (filter-append (λ (t : Tagged). nat_eq t.feeder f) xs ys) ∙ map-append (λ (t : Tagged). t.item) (filter (λ t. nat_eq t.feeder f) xs) (filter (λ t. nat_eq t.feeder f) ys)

pub items_by-own : (f : ℕ) (t : Tagged) → t.feeder ≡ f → items_by f (t ∷ []) ≡ t.item ∷ []
items_by-own f t is = ap (λ (b : Bool). map (λ (t : Tagged). t.item) (cond b (t ∷ []) [])) (eq-eqb t.feeder f is)

pub items_by-other : (f : ℕ) (t : Tagged) → t.feeder ≢ f → items_by f (t ∷ []) ≡ []
items_by-other f t apart = ap (λ (b : Bool). map (λ (t : Tagged). t.item) (cond b (t ∷ []) [])) (ne_eqb t.feeder f apart)

module _ {X : Type 0} (P Q : X → Type 0) where
  pub every : ((x : X) → P x → Q x) → (xs : List X) → AllByRecursion P xs → AllByRecursion Q xs
  every f [] h = tt
  every f (x ∷ xs) h = (f x h.0, every f xs h.1)

module _ {X : Type 0} (P : X → Type 0) where
  pub every-append : (xs ys : List X) → AllByRecursion P xs → AllByRecursion P ys → AllByRecursion P (xs ++ ys)
  every-append [] ys h k = k
  every-append (x ∷ xs) ys h k = (h.0, every-append xs ys h.1 k)

module _ {X : Type 0} where
  pub drop-append-same : (xs ys : List X) → drop (length xs) (xs ++ ys) ≡ ys
  drop-append-same [] ys = refl
  drop-append-same (x ∷ xs) ys = drop-append-same xs ys

  pub no_length : (xs : List X) → length xs ≤ 0 → xs ≡ []
  no_length [] h = refl
  no_length (x ∷ xs) h = absurd (omega arith)

  -- a beginning that is as long as the whole is the whole
  pub whole : (xs front later : List X) → xs ≡ front ++ later → length xs ≤ length front → front ≡ xs
  whole xs front later is long = let n : length later ≤ 0 = (let e : length xs ≡ length front + length later = ap length is ∙ length-append front later in omega arith) in
      sym (is ∙ ap (λ l. front ++ l) (no_length later n) ∙ append-nil front)

  pub at_new : (l : List X) (a b : X) (j : ℕ) → get_elem? (l ++ a ∷ []) j ≡ some b → (get_elem? l j ≡ some b) ⊎ ((j ≡ length l) × (a ≡ b))
  at_new [] a b zero e = inr (refl, some-injective a b e)
  at_new [] a b (suc j) e = absurd (some-ne-none b (sym e))
  at_new (x ∷ xs) a b zero e = inl e
  at_new (x ∷ xs) a b (suc j) e = ⊎_elim inl (λ t. inr (ap suc t.0, t.1)) (at_new xs a b j e)

-- the function that gives y at n, and elsewhere what f gives
abbrev pub updated : {Y : Type 0} → (ℕ → Y) → ℕ → Y → ℕ → Y
updated f n y k = cond (nat_eq k n) y (f k)

module _ {Y : Type 0} (f : ℕ → Y) (n : ℕ) (y : Y) where
  pub updated_here : (k : ℕ) → k ≡ n → updated f n y k ≡ y
  updated_here k e = ap (λ (b : Bool). cond b y (f k)) (eq-eqb k n e)

  pub updated_else : (k : ℕ) → k ≢ n → updated f n y k ≡ f k
  updated_else k e = ap (λ (b : Bool). cond b y (f k)) (ne_eqb k n e)
