-- The station behind another on a route.
use Rattle.std.proofs.Common.{◌≡◌, ◌≢◌, ℕ, zero, suc, ◌<◌, ◌≤◌, true, List, [], ◌∷◌, length, Option, Some, None, IfSome, option_and_then, Contains, slice_get, slice_index_or, inl, inr, refl, ap, sym, ◌∙◌, subst, arith}
use Rattle.std.specs.List.{AllByRecursion}
use Rattle.std.proofs.lemmas.Bool.{cond-true, cond-false}
use Rattle.std.proofs.lemmas.Option.{same_Some, slice_get_within, get_or_from_slice_get, option_and_then_some}
use Rattle.sdl_signal.specs.declared.values.Item.{Item}
use Rattle.sdl_routes.specs.declared.route.TableRow.{TableRow}
use Rattle.sdl_routes.specs.declared.route.Station.{Station}
use Rattle.sdl_routes.specs.Routes.{EachOnce, FollowsIn}
use Rattle.sdl_routes.specs.Table.{IsTableRoute, IsTable}
use Rattle.sdl_forward.specs.Boards.{same_station, IsStationOf}
use Rattle.sdl_forward.specs.Forwards.{station_behind, next_station}
use Rattle.sdl_forward.proofs.Same.{same_station_itself, other_station, cases_station}

follows_is : (ss : List Station) (s : Station) (next : Option Station) → FollowsIn ss (Some s) next → next ≡ station_behind s ss
follows_is [] s next h = h.1 (λ c. let lt : c.0 < 0 = c.1 in absurd (omega arith))
follows_is (x ∷ ss) s next h = elim (cases_station x s) [
  | inl same ↦
      h.0 0 (ap Some same) ∙ sym (cond-true (same_station x s) (slice_get ss 0) (station_behind s ss) (subst (λ (t : Station). same_station x t ≡ true) same (same_station_itself x)))
  | inr other ↦
      follows_is ss s next (λ k at. h.0 (suc k) at, λ absent. h.1 (λ c. not_in x ss s other absent c.0 c.1 c.2))
      ∙ sym (cond-false (same_station x s) (slice_get ss 0) (station_behind s ss) (other_station x s other))
]
  where
    not_in : (x : Station) (ss : List Station) (s : Station) → x ≢ s → (Contains ss s → ⊥) → (k : ℕ) → k < length (x ∷ ss) → slice_index_or (x ∷ ss) k s ≡ s → ⊥
    not_in x ss s other absent zero lt at = other at
    not_in x ss s other absent (suc k) lt at = absent (k, omega arith, at)

behind_in : (ss : List Station) (s t : Station) → station_behind s ss ≡ Some t → (k : ℕ) × (slice_get ss k ≡ Some t)
behind_in [] s t at = absurd (let e : None ≡ Some t = at in cc)
behind_in (x ∷ ss) s t at = elim (cases_station x s) [
  | inl same ↦ (1, sym (cond-true (same_station x s) (slice_get ss 0) (station_behind s ss) (subst (λ (u : Station). same_station x u ≡ true) same (same_station_itself x))) ∙ at)
  | inr other ↦ (
      let later = behind_in ss s t (sym (cond-false (same_station x s) (slice_get ss 0) (station_behind s ss) (other_station x s other)) ∙ at) in
      (suc later.0, later.1))
]

not_first : (x : Station) (ss : List Station) (t : Station) → AllByRecursion (λ y. x ≢ y) ss → slice_get ss 0 ≡ Some t → x ≢ t
not_first x [] t all at = absurd (let e : None ≡ Some t = at in cc)
not_first x (y ∷ ss) t all at = subst (λ (u : Station). x ≢ u) (same_Some y t at) all.0

behind_other : (ss : List Station) (s t : Station) → EachOnce ss → station_behind s ss ≡ Some t → t ≢ s
behind_other [] s t once at = absurd (let e : None ≡ Some t = at in cc)
behind_other (x ∷ ss) s t once at = elim (cases_station x s) [
  | inl same ↦ (
      let first = sym (cond-true (same_station x s) (slice_get ss 0) (station_behind s ss) (subst (λ (u : Station). same_station x u ≡ true) same (same_station_itself x))) ∙ at in
      λ e. not_first x ss t once.0 first (same ∙ sym e))
  | inr other ↦ behind_other ss s t once.1 (sym (cond-false (same_station x s) (slice_get ss 0) (station_behind s ss) (other_station x s other)) ∙ at)
]

none_past : {X : Type 0} (xs : List X) (k : ℕ) → slice_get xs k ≡ None → length xs ≤ k
none_past [] k at = omega arith
none_past (x ∷ xs) zero at = absurd (let e : Some x ≡ None = at in cc)
none_past (x ∷ xs) (suc k) at = let h : length xs ≤ k = none_past xs k at in omega arith

next_in : (o : Option TableRow) (s : Station) (next : Option Station) → IfSome o (λ row. FollowsIn row.route.stations.items (Some s) next) → (o ≡ None → next ≡ None)
    → next ≡ option_and_then (λ row. station_behind s row.route.stations.items) o
next_in None s next known unknown = unknown refl
next_in (Some row) s next known unknown = follows_is row.route.stations.items s next known

-- what the table answers is the next station
pub next_is : (rows : List TableRow) (s : Station) (item : Item) (next : Option Station)
    → IfSome (slice_get rows item.route.0) (λ row. FollowsIn row.route.stations.items (Some s) next) → (length rows ≤ item.route.0 → next ≡ None)
    → next_station rows s item ≡ next
next_is rows s item next known unknown = sym (next_in (slice_get rows item.route.0) s next known (λ e. unknown (none_past rows item.route.0 e)))

each_at : {X : Type 0} (P : X → Type 0) (xs : List X) (k : ℕ) (x : X) → AllByRecursion P xs → slice_get xs k ≡ Some x → P x
each_at P [] k x all at = absurd (let e : None ≡ Some x = at in cc)
each_at P (y ∷ xs) zero x all at = subst P (same_Some y x at) all.0
each_at P (y ∷ xs) (suc k) x all at = each_at P xs k x all.1 at

-- the next station is one of a route, and another
pub next_passed : (rows : List TableRow) (s : Station) (item : Item) (t : Station) → next_station rows s item ≡ Some t → IsStationOf rows t
next_passed rows s item t next =
    option_and_then_some (λ (row : TableRow). station_behind s row.route.stations.items) (slice_get rows item.route.0) t next
    (λ row there behind.
    let at = behind_in row.route.stations.items s t behind in (
      item.route.0,
      row,
      slice_get_within rows item.route.0 row there,
      get_or_from_slice_get rows item.route.0 row row there,
      (at.0, slice_get_within row.route.stations.items at.0 t at.1, get_or_from_slice_get row.route.stations.items at.0 t t at.1),
    ))

-- so is the first one
pub first_passed : (rows : List TableRow) (r : ℕ) (row : TableRow) (t : Station) → slice_get rows r ≡ Some row → slice_get row.route.stations.items 0 ≡ Some t → IsStationOf rows t
first_passed rows r row t there first = (
  r,
  row,
  slice_get_within rows r row there,
  get_or_from_slice_get rows r row row there,
  (0, slice_get_within row.route.stations.items 0 t first, get_or_from_slice_get row.route.stations.items 0 t t first),
)

-- and so is what the table answers, for any station or for none
answered_in : (rows : List TableRow) (r : ℕ) (after : Option Station) (t : Station) (o : Option TableRow) → slice_get rows r ≡ o
    → (length rows ≤ r → Some t ≡ None) → IfSome o (λ row. FollowsIn row.route.stations.items after (Some t)) → IsStationOf rows t
answered_in rows r after t None there unknown h = absurd (let e : Some t ≡ None = unknown (none_past rows r there) in cc)
answered_in rows r None t (Some row) there unknown h = first_passed rows r row t there (sym h)
answered_in rows r (Some s) t (Some row) there unknown h =
    let at = behind_in row.route.stations.items s t (sym (follows_is row.route.stations.items s (Some t) h)) in (
      r,
      row,
      slice_get_within rows r row there,
      get_or_from_slice_get rows r row row there,
      (at.0, slice_get_within row.route.stations.items at.0 t at.1, get_or_from_slice_get row.route.stations.items at.0 t t at.1),
    )

pub answered_passed : (rows : List TableRow) (r : ℕ) (after : Option Station) (t : Station)
    → IfSome (slice_get rows r) (λ row. FollowsIn row.route.stations.items after (Some t)) → (length rows ≤ r → Some t ≡ None) → IsStationOf rows t
answered_passed rows r after t known unknown = answered_in rows r after t (slice_get rows r) refl unknown known

pub next_other : (rows : List TableRow) (s : Station) (item : Item) (t : Station) → IsTable rows → next_station rows s item ≡ Some t → t ≢ s
next_other rows s item t table next =
    option_and_then_some (λ (row : TableRow). station_behind s row.route.stations.items) (slice_get rows item.route.0) t next
    (λ row there behind. behind_other row.route.stations.items s t (each_at IsTableRoute rows item.route.0 row table.shown there).stations_once behind)
