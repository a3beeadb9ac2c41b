-- In a list whose elements each stand once an element has one place.
use Rattle.std.proofs.Common.{◌≡◌, ◌≢◌, ℕ, zero, suc, List, [], ◌∷◌, Contains, Option, Some, None, slice_get, refl, ap, ◌∙◌, subst}
use Rattle.std.specs.List.{AllByRecursion}
use Rattle.std.proofs.lemmas.Option.{slice_get_within, get_or_from_slice_get}
use Rattle.sdl_routes.specs.Routes.{EachOnce, FollowsIn}
use Rattle.sdl_routes.specs.declared.route.Station.{Station}

not_later : {X : Type 0} (x : X) (xs : List X) (k : ℕ) → AllByRecursion (λ y. x ≢ y) xs → slice_get xs k ≢ Some x
not_later x [] k all at = let e : None ≡ Some x = at in cc
not_later x (y ∷ xs) zero all at = all.0 (let e : Some y ≡ Some x = at in cc)
not_later x (y ∷ xs) (suc k) all at = not_later x xs k all.1 at

once_at : {X : Type 0} (x : X) (xs : List X) (i j : ℕ) → EachOnce xs → slice_get xs i ≡ Some x → slice_get xs j ≡ Some x → i ≡ j
once_at x [] i j once p q = let e : None ≡ Some x = p in cc
once_at {X = X} x (y ∷ xs) zero zero once p q = refl
once_at {X = X} x (y ∷ xs) zero (suc j) once p q =
    let e : y ≡ x = (let f : Some y ≡ Some x = p in cc) in
    absurd (not_later x xs j (subst (λ (z : X). AllByRecursion (λ w. z ≢ w) xs) e once.0) q)
once_at {X = X} x (y ∷ xs) (suc i) zero once p q =
    let e : y ≡ x = (let f : Some y ≡ Some x = q in cc) in
    absurd (not_later x xs i (subst (λ (z : X). AllByRecursion (λ w. z ≢ w) xs) e once.0) p)
once_at {X = X} x (y ∷ xs) (suc i) (suc j) once p q = ap suc (once_at x xs i j once.1 p q)

contained : {X : Type 0} (xs : List X) (x : X) (i : ℕ) → slice_get xs i ≡ Some x → Contains xs x
contained xs x i at = (i, slice_get_within xs i x at, get_or_from_slice_get xs i x x at)

pub follows : (stations : List Station) (station : Station) (next : Option Station) (i : ℕ) → EachOnce stations → slice_get stations i ≡ Some station
    → next ≡ slice_get stations (suc i) → FollowsIn stations (Some station) next
follows stations station next i once at is = (
  (λ k there. is ∙ ap (λ n. slice_get stations (suc n)) (once_at station stations i k once at there)),
  (λ absent. absurd (absent (contained stations station i at))),
)

pub follows_none : (stations : List Station) (station : Station) → ((k : ℕ) → slice_get stations k ≢ Some station) → FollowsIn stations (Some station) None
follows_none stations station none = ((λ k there. absurd (none k there)), (λ absent. refl))
