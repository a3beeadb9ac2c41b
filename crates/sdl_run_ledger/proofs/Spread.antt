-- Sums over two lists, and counts of items route by route.
use Rattle.std.proofs.Common.{ℕ, zero, suc, ◌+◌, ◌<◌, ◌≤◌, Bool, true, false, cond, eqb, List, [], ◌∷◌, length, reverse, ◌≡◌, ◌≢◌, ◌⊎◌, inl, inr, refl, ap, sym, ◌∙◌, subst, arith, sum_by}
use Rattle.std.specs.List.{AllByRecursion}
use Rattle.std.proofs.lemmas.Bool.{cond_both, cases_Bool, both_ways, eqb-true, eq-eqb}
use Rattle.std.proofs.lemmas.List.{reverse-append}
use Rattle.std.proofs.lemmas.List.Sums.{sum_by-cons, sum_by-append}
use Rattle.sdl_signal.specs.declared.values.Item.{Item}
use Rattle.sdl_routes.specs.Routes.{EachOnce}
use Rattle.sdl_run_outcome.specs.Stations.{Among}
use Rattle.sdl_run_outcome.specs.Books.{of_route}
use Rattle.sdl_run_outcome.proofs.Lists.{filter_none, all_weaker}
use Rattle.sdl_run_outcome.proofs.Sums.{sum_same, sum_both, sum_none}
use Rattle.sdl_run_ledger.proofs.Adding.{no_sum}

pub sum_swap : {X Y : Type 0} (g : X → Y → ℕ) (xs : List X) (ys : List Y) → sum_by (λ x. sum_by (λ y. g x y) ys) xs ≡ sum_by (λ y. sum_by (λ x. g x y) xs) ys
sum_swap g [] ys = sym (no_sum ys)
sum_swap g (x ∷ xs) ys =
    let a = sum_by-cons (λ (z : _). sum_by (λ y. g z y) ys) x xs in
    let b = sum_swap g xs ys in
    let c = sum_both (λ (y : _). sum_by (λ z. g z y) (x ∷ xs)) (λ y. g x y) (λ y. sum_by (λ z. g z y) xs) ys (λ y. sum_by-cons (λ (z : _). g z y) x xs) in
    omega (arith, a, b, c)

pub sum_reverse : {X : Type 0} (f : X → ℕ) (xs : List X) → sum_by f (reverse xs) ≡ sum_by f xs
sum_reverse f [] = refl
sum_reverse f (x ∷ xs) =
    let a = ap (sum_by f) (reverse-append (x ∷ []) xs) in
    let b = sum_by-append f (reverse xs) (x ∷ []) in
    let c = sum_by-cons f x [] in
    let d = sum_by-cons f x xs in
    let e = sum_reverse f xs in
    omega (arith, a, b, c, d, e)

-- a test of equality
module _ {X : Type 0} (same : X → X → Bool) (is : (x y : X) → same x y ≡ true → x ≡ y) (itself : (x : X) → same x x ≡ true) where
  among_or : (x : X) (ys : List X) → Among x ys ⊎ (Among x ys → ⊥)
  among_or x [] = inr (λ m. m)
  among_or x (y ∷ ys) = elim (cases_Bool (same x y)) [
    | inl t ↦ inl (inl (is x y t))
    | inr f ↦ elim (among_or x ys) [
      | inl m ↦ inl (inr m)
      | inr n ↦ inr (λ m. elim m [ inl e ↦ both_ways (same x y) f (subst (λ z. same x z ≡ true) e (itself x)) | inr k ↦ n k ])
    ]
  ]

  apart : (x : X) (ys : List X) → AllByRecursion (λ y. x ≢ y) ys → Among x ys → ⊥
  apart x [] h m = m
  apart x (y ∷ ys) h m = elim m [ inl e ↦ h.0 e | inr n ↦ apart x ys h.1 n ]

  pub all_apart : (x : X) (ys : List X) → (Among x ys → ⊥) → AllByRecursion (λ y. x ≢ y) ys
  all_apart x [] n = tt
  all_apart x (y ∷ ys) n = (λ e. n (inl e), all_apart x ys (λ m. n (inr m)))

  picked_none : (x : X) (n : ℕ) (ys : List X) → (Among x ys → ⊥) → sum_by (λ y. cond (same x y) n 0) ys ≡ 0
  picked_none x n ys away =
      sum_none (λ y. cond (same x y) n 0) ys (λ y m. cond_both (same x y) n 0 (λ k. k ≡ 0) (λ t. absurd (away (subst (λ z. Among z ys) (sym (is x y t)) m))) (λ f. refl))

  pub picked : (x : X) (n : ℕ) (ys : List X) → EachOnce ys → Among x ys → sum_by (λ y. cond (same x y) n 0) ys ≡ n
  picked x n [] once m = absurd m
  picked x n (y ∷ ys) once m =
      let a = sum_by-cons (λ z. cond (same x z) n 0) y ys in
      elim (cases_Bool (same x y)) [
        | inl t ↦ (
            let here : cond (same x y) n 0 ≡ n = ap (λ (b : Bool). cond b n 0) t in
            let rest = picked_none x n ys (λ k. apart y ys once.0 (subst (λ z. Among z ys) (is x y t) k)) in
            omega (arith, a, here, rest))
        | inr f ↦ (
            let here : cond (same x y) n 0 ≡ 0 = ap (λ (b : Bool). cond b n 0) f in
            let there : Among x ys = elim m [ inl e ↦ absurd (both_ways (same x y) f (subst (λ z. same x z ≡ true) e (itself x))) | inr k ↦ k ] in
            let rest = picked x n ys once.1 there in
            omega (arith, a, here, rest))
      ]

  picks : (f : X → ℕ) (ys : List X) → EachOnce ys → (x : X) → ((Among x ys → ⊥) → f x ≡ 0) → sum_by (λ y. cond (same x y) (f x) 0) ys ≡ f x
  picks f ys once x none = elim (among_or x ys) [
    | inl m ↦ picked x (f x) ys once m
    | inr n ↦ picked_none x (f x) ys n ∙ sym (none n)
  ]

  either_way : (f : X → ℕ) (x y : X) → cond (same x y) (f x) 0 ≡ cond (same y x) (f y) 0
  either_way f x y = elim (cases_Bool (same x y)) [
    | inl t ↦ subst (λ z. cond (same x z) (f x) 0 ≡ cond (same z x) (f z) 0) (is x y t) refl
    | inr n ↦ (
        let other : same y x ≡ false = elim (cases_Bool (same y x)) as (λ _. same y x ≡ false) [
          | inl t ↦ absurd (both_ways (same x y) n (subst (λ z. same z y ≡ true) (is y x t) (itself y)))
          | inr k ↦ k
        ] in
        ap (λ (b : Bool). cond b (f x) 0) n ∙ sym (ap (λ (b : Bool). cond b (f y) 0) other))
  ]

  -- Two lists, each element once, and a term that is 0 for what stands in one of them only: the sums are equal.
  pub sum_over : (f : X → ℕ) (xs ys : List X) → EachOnce xs → EachOnce ys → ((x : X) → Among x xs → (Among x ys → ⊥) → f x ≡ 0) → ((y : X) → Among y ys → (Among y xs → ⊥) → f y ≡ 0)
      → sum_by f xs ≡ sum_by f ys
  sum_over f xs ys once_x once_y left right =
      let a = sum_same (λ x. sum_by (λ y. cond (same x y) (f x) 0) ys) f xs (λ x m. picks f ys once_y x (left x m)) in
      let b = sum_swap (λ x y. cond (same x y) (f x) 0) xs ys in
      let c = sum_same (λ y. sum_by (λ x. cond (same x y) (f x) 0) xs) (λ y. sum_by (λ x. cond (same y x) (f y) 0) xs) ys (λ y m. sum_same (λ x. cond (same x y) (f x) 0) (λ x. cond (same y x) (f y) 0) xs (λ x k. either_way f x y)) in
      let d = sum_same (λ y. sum_by (λ x. cond (same y x) (f y) 0) xs) f ys (λ y m. picks f xs once_x y (right y m)) in
      omega (arith, a, b, c, d)

-- the numbers below n
pub below : ℕ → List ℕ
below zero = []
below (suc n) = n ∷ below n

pub among_below : (n r : ℕ) → r < n → Among r (below n)
unfolding below
among_below zero r less = absurd (omega arith)
among_below (suc n) r less = elim (cases_Bool (eqb r n)) [
  | inl t ↦ inl (eqb-true r n t)
  | inr f ↦ inr (among_below n r (let apart : r ≢ n = λ e. both_ways (eqb r n) f (eq-eqb r n e) in omega arith))
]

pub below_less : (n r : ℕ) → Among r (below n) → r < n
unfolding below
below_less zero r m = absurd m
below_less (suc n) r m = elim m [ inl e ↦ omega (arith, e) | inr k ↦ (let l = below_less n r k in omega (arith, l)) ]

below_apart : (m n : ℕ) → n ≤ m → AllByRecursion (λ k. m ≢ k) (below n)
unfolding below
below_apart m zero h = tt
below_apart m (suc n) h = (λ e. omega (arith, e), below_apart m n (omega arith))

pub below_once : (n : ℕ) → EachOnce (below n)
unfolding below
below_once zero = tt
below_once (suc n) = (below_apart n n (omega arith), below_once n)

-- how many of the items are on route r
abbrev pub number : ℕ → List Item → ℕ
number r xs = length (of_route r xs)

pub number_cons : (r : ℕ) (i : Item) (xs : List Item) → number r (i ∷ xs) ≡ cond (eqb i.route.0 r) 1 0 + number r xs
number_cons r i xs = cond_both (eqb i.route.0 r) 1 0 (λ (k : ℕ). length (cond (eqb i.route.0 r) (i ∷ of_route r xs) (of_route r xs)) ≡ k + number r xs)
    (λ t. ap (λ (b : Bool). length (cond b (i ∷ of_route r xs) (of_route r xs))) t ∙ omega arith)
    (λ f. ap (λ (b : Bool). length (cond b (i ∷ of_route r xs) (of_route r xs))) f ∙ omega arith)

-- each item is on one route
pub number_all : (n : ℕ) (xs : List Item) → AllByRecursion (λ (i : Item). i.route.0 < n) xs → sum_by (λ r. number r xs) (below n) ≡ length xs
number_all n [] h = no_sum (below n)
number_all n (i ∷ xs) h =
    let a = sum_both (λ (r : ℕ). number r (i ∷ xs)) (λ r. cond (eqb i.route.0 r) 1 0) (λ r. number r xs) (below n) (λ r. number_cons r i xs) in
    let b = picked eqb (λ x y e. eqb-true x y e) (λ x. eq-eqb x x refl) i.route.0 1 (below n) (below_once n) (among_below n i.route.0 h.0) in
    let c = number_all n xs h.1 in
    omega (arith, a, b, c)

-- none of them is
pub number_none : (r : ℕ) (xs : List Item) → AllByRecursion (λ (i : Item). i.route.0 ≢ r) xs → number r xs ≡ 0
number_none r xs h =
    ap length (filter_none (λ (i : Item). eqb i.route.0 r) xs (all_weaker (λ (i : Item). i.route.0 ≢ r) (λ (i : Item). eqb i.route.0 r ≡ true → ⊥) (λ i n e. n (eqb-true i.route.0 r e)) xs h))
