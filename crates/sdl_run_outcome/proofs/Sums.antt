-- Sums over a list of which each element stands once.
use Rattle.std.proofs.Common.{ℕ, ◌+◌, ◌≤◌, Bool, true, cond, List, [], ◌∷◌, ◌≡◌, ◌≢◌, ◌⊎◌, inl, inr, refl, sym, ◌∙◌, subst, arith, sum_by}
use Rattle.std.specs.List.{AllByRecursion}
use Rattle.std.proofs.lemmas.Bool.{cond_both}
use Rattle.std.proofs.lemmas.List.Sums.{sum_by-cons}
use Rattle.sdl_routes.specs.Routes.{EachOnce}
use Rattle.sdl_run_outcome.specs.Stations.{Among}

module _ {X : Type 0} where
  pub sum_same : (f g : X → ℕ) (xs : List X) → ((x : X) → Among x xs → f x ≡ g x) → sum_by f xs ≡ sum_by g xs
  sum_same f g [] h = refl
  sum_same f g (x ∷ xs) h =
      let a = sum_by-cons f x xs in
      let b = sum_by-cons g x xs in
      let c = h x (inl refl) in
      let d = sum_same f g xs (λ y m. h y (inr m)) in
      omega arith

  pub sum_both : (f g h : X → ℕ) (xs : List X) → ((x : X) → f x ≡ g x + h x) → sum_by f xs ≡ sum_by g xs + sum_by h xs
  sum_both f g h [] e = refl
  sum_both f g h (x ∷ xs) e =
      let a = sum_by-cons f x xs in
      let b = sum_by-cons g x xs in
      let c = sum_by-cons h x xs in
      let d = e x in
      let i = sum_both f g h xs e in
      omega arith

  pub sum_none : (f : X → ℕ) (xs : List X) → ((x : X) → Among x xs → f x ≡ 0) → sum_by f xs ≡ 0
  sum_none f [] h = refl
  sum_none f (x ∷ xs) h =
      let a = sum_by-cons f x xs in
      let b = h x (inl refl) in
      let c = sum_none f xs (λ y m. h y (inr m)) in
      omega arith

  apart_among : (x : X) (xs : List X) → AllByRecursion (λ y. x ≢ y) xs → (y : X) → Among y xs → x ≢ y
  apart_among x [] h y m = absurd m
  apart_among x (z ∷ zs) h y m = elim m [ inl e ↦ (λ f. h.0 (f ∙ e)) | inr n ↦ apart_among x zs h.1 y n ]

  -- one term is lower by k
  pub sum_lower : (f g : X → ℕ) (w : X) (k : ℕ) (xs : List X) → EachOnce xs → Among w xs → f w ≡ g w + k → ((x : X) → x ≢ w → f x ≡ g x) → sum_by f xs ≡ sum_by g xs + k
  sum_lower f g w k [] once m e h = absurd m
  sum_lower f g w k (x ∷ xs) once m e h =
      let a = sum_by-cons f x xs in
      let b = sum_by-cons g x xs in
      elim m [
        | inl same ↦ (
            let c : f x ≡ g x + k = subst (λ y. f y ≡ g y + k) same e in
            let d = sum_same f g xs (λ y n. h y (λ s. apart_among x xs once.0 y n (sym same ∙ sym s))) in
            omega arith)
        | inr n ↦ (
            let c : f x ≡ g x = h x (λ s. apart_among x xs once.0 w n s) in
            let d = sum_lower f g w k xs once.1 n e h in
            omega arith)
      ]

  -- at most one term is greater, by k
  pub sum_higher : (f g : X → ℕ) (z : X) (k : ℕ) (xs : List X) → EachOnce xs → g z ≡ f z + k → ((x : X) → (x ≡ z) ⊎ (x ≢ z)) → ((x : X) → x ≢ z → g x ≡ f x) → sum_by g xs ≤ sum_by f xs + k
  sum_higher f g z k [] once e decide h = omega arith
  sum_higher f g z k (x ∷ xs) once e decide h =
      let a = sum_by-cons f x xs in
      let b = sum_by-cons g x xs in
      elim (decide x) [
        | inl same ↦ (
            let c : g x ≡ f x + k = subst (λ y. g y ≡ f y + k) (sym same) e in
            let d = sum_same g f xs (λ y n. h y (λ s. apart_among x xs once.0 y n (same ∙ sym s))) in
            omega arith)
        | inr other ↦ (
            let c = h x other in
            let d = sum_higher f g z k xs once.1 e decide h in
            omega arith)
      ]

  -- a test that one element at most passes
  pub sum_one : (test : X → Bool) (value : X → ℕ) (most : ℕ) (xs : List X) → EachOnce xs → ((x y : X) → test x ≡ true → test y ≡ true → x ≡ y) → ((x : X) → test x ≡ true → value x ≤ most)
      → sum_by (λ x. cond (test x) (value x) 0) xs ≤ most
  sum_one test value most [] once alone h = omega arith
  sum_one test value most (x ∷ xs) once alone h =
      let f = λ (y : X). cond (test y) (value y) 0 in
      let a = sum_by-cons f x xs in
      let i = sum_one test value most xs once.1 alone h in
      let P : ℕ → Type 0 = λ n. f x ≡ n → sum_by f (x ∷ xs) ≤ most in
      cond_both (test x) (value x) 0 P
      (λ t e. let none = sum_none f xs (λ y n. cond_both (test y) (value y) 0 (λ m. m ≡ 0) (λ u. absurd (apart_among x xs once.0 y n (alone x y t u))) (λ u. refl)) in let l = h x t in omega arith)
      (λ t e. omega arith) refl
