-- The index of the first stations of a list, and one more.
use Rattle.std.proofs.Common.{◌≡◌, ◌≢◌, ℕ, zero, suc, ◌<◌, ◌+◌, List, [], ◌∷◌, take, Some, None, slice_get, inl, inr, refl, ap, sym, ◌∙◌, subst, arith}
use Rattle.std.specs.List.{AllByRecursion}
use Rattle.std.proofs.lemmas.Option.{same_Some}
use Rattle.sdl_routes.specs.declared.route.Station.{Station}
use Rattle.sdl_routes.specs.Routes.{EachOnce}
use Rattle.sdl_forward_ends.specs.declared.index.Index.{Index}
use Rattle.sdl_forward_ends.specs.Stations.{stations_of}
use Rattle.sdl_forward_ends.specs.Index.{place_of, IsIndexOf}
use Rattle.sdl_forward_ends.proofs.Same.{cases_station}

within_take : {X : Type 0} (xs : List X) (n k : ℕ) (x : X) → slice_get (take n xs) k ≡ Some x → (k < n) × (slice_get xs k ≡ Some x)
within_take [] zero k x at = let e : None ≡ Some x = at in cc
within_take [] (suc n) k x at = let e : None ≡ Some x = at in cc
within_take (y ∷ xs) zero k x at = let e : None ≡ Some x = at in cc
within_take (y ∷ xs) (suc n) zero x at = (omega arith, at)
within_take (y ∷ xs) (suc n) (suc k) x at = let h = within_take xs n k x at in let lt : k < n = h.0 in (omega arith, h.1)

in_take : {X : Type 0} (xs : List X) (n k : ℕ) (x : X) → k < n → slice_get xs k ≡ Some x → slice_get (take n xs) k ≡ Some x
in_take [] n k x lt at = let e : None ≡ Some x = at in cc
in_take (y ∷ xs) zero k x lt at = absurd (omega arith)
in_take (y ∷ xs) (suc n) zero x lt at = at
in_take (y ∷ xs) (suc n) (suc k) x lt at = in_take xs n k x (omega arith) at

each_later : {X : Type 0} (P : X → Type 0) (x : X) (xs : List X) (k : ℕ) → AllByRecursion P xs → slice_get xs k ≡ Some x → P x
each_later P x [] k all at = let e : None ≡ Some x = at in cc
each_later P x (y ∷ xs) zero all at = subst P (same_Some y x at) all.0
each_later P x (y ∷ xs) (suc k) all at = each_later P x xs k all.1 at

pub one_at : (ss : List Station) (i j : ℕ) (s : Station) → EachOnce ss → slice_get ss i ≡ Some s → slice_get ss j ≡ Some s → i ≡ j
one_at [] i j s once p q = let e : None ≡ Some s = p in cc
one_at (u ∷ ss) zero zero s once p q = refl
one_at (u ∷ ss) zero (suc j) s once p q = absurd (each_later (λ (t : Station). u ≢ t) s ss j once.0 q (same_Some u s p))
one_at (u ∷ ss) (suc i) zero s once p q = absurd (each_later (λ (t : Station). u ≢ t) s ss i once.0 p (same_Some u s q))
one_at (u ∷ ss) (suc i) (suc j) s once p q = ap suc (one_at ss i j s once.1 p q)

pub index_more : (old new : Index) (ss : List Station) (n : ℕ) (s : Station) → EachOnce ss → slice_get ss n ≡ Some s → IsIndexOf old (take n ss)
    → place_of new s ≡ Some n → ((t : Station) → t ≢ s → place_of new t ≡ place_of old t) → IsIndexOf new (take (n + 1) ss)
index_more old new ss n s once here ok found others = record {
  every = λ t k at.
      let h = within_take ss (n + 1) k t at in
      elim (cases_station t s) [
        | inl p ↦ (
            let same : k ≡ n = one_at ss k n t once h.1 (subst (λ (u : Station). slice_get ss n ≡ Some u) (sym p) here) in
            ap (place_of new) p ∙ found ∙ ap Some (sym same))
        | inr other ↦ (
            let not_n : k ≢ n = λ e. other (same_Some t s (sym h.1 ∙ ap (slice_get ss) e ∙ here)) in
            let below : k < n + 1 = h.0 in
            others t other ∙ ok.every t k (in_take ss n k t (omega arith) h.1))
      ];
  only = λ t k at. elim (cases_station t s) [
    | inl p ↦ (
        let same : n ≡ k = same_Some n k (sym found ∙ ap (place_of new) (sym p) ∙ at) in
        in_take ss (n + 1) k t (omega arith) (ap (slice_get ss) (sym same) ∙ here ∙ ap Some (sym p)))
    | inr other ↦ (
        let h = within_take ss n k t (ok.only t k (sym (others t other) ∙ at)) in
        let below : k < n = h.0 in
        in_take ss (n + 1) k t (omega arith) h.1)
  ];
}

-- the station of the entry at a place
pub stations_get : {X : Type 0} (es : List (Station × X)) (k : ℕ) (e : Station × X) → slice_get es k ≡ Some e → slice_get (stations_of es) k ≡ Some e.0
stations_get [] k e at = let f : None ≡ Some e = at in cc
stations_get (x ∷ es) zero e at = ap (λ y. Some y.0) (same_Some x e at)
stations_get (x ∷ es) (suc k) e at = stations_get es k e at
