-- The stations of all routes: collected route by route, sorted, and each kept once.
use Rattle.std.proofs.Common.{◌≡◌, ℕ, zero, suc, ◌<◌, ◌≤◌, ◌+◌, ◌*◌, Bool, true, false, cond, List, [], ◌∷◌, ◌++◌, take, length, Some, None, option_map, slice_get, slice_index_or, Contains, inl, inr, refl, ap, sym, ◌∙◌, subst, add-one, append_assoc, arith}
use Rattle.std.specs.List.{flat_map, dedup, AllByRecursion}
use Rattle.std.specs.List.Sorted.{IsSorted, IsPermutation, IsStrictlySortedBy}
use Rattle.std.specs.declared.cmp.Ordering.{Ordering}
use Rattle.std.specs.declared.cmp.Ordering.TheVariants.{Less, Equal, Greater}
use Rattle.std.specs.Ordering.{ordering_then, nat_cmp, bool_cmp}
use Rattle.std.proofs.lemmas.Cmp.{ranked, by_ranked}
use Rattle.std.proofs.lemmas.List.{append-nil}
use Rattle.std.proofs.lemmas.List.Elements.{Contains-append_left, Contains-append_right, Contains-append_cases}
use Rattle.std.proofs.lemmas.List.Kept.{Contains-dedup, Contains-from_dedup, IsStrictlySortedBy-dedup}
use Rattle.std.proofs.lemmas.List.Sorted.{Contains-permutation, IsPermutation-sym}
use Rattle.std.proofs.lemmas.Option.{same_Some}
use Rattle.sdl_routes.specs.contracts.route.StationOrd.TheImpl.{cmp-value}
use Rattle.sdl_routes.specs.contracts.route.StationPartialEq.TheImpl.{eq-value}
use Rattle.sdl_routes.specs.contracts.route.StationOrd.TheImpl.Laws.{total-law, matches_eq-law}
use Rattle.sdl_routes.specs.contracts.route.StationEq.TheImpl.Laws.{laws-law}
use Rattle.sdl_routes.specs.declared.route.Route.{Route}
use Rattle.sdl_routes.specs.declared.route.TableRow.{TableRow}
use Rattle.sdl_routes.specs.declared.route.Station.{Station}
use Rattle.sdl_routes.specs.declared.route.Station.TheVariants.{Line, Inlet, Outlet}
use Rattle.sdl_forward_opening.specs.Stations.{IsStationOf, IsStationBefore, AreStationsInOrder, AreAllStations}
use Rattle.sdl_forward_ends.proofs.Same.{same_station_is}
use Rattle.sdl_forward_ends.specs.Stations.{same_station}

abbrev pub route_stations : TableRow → List Station
route_stations row = row.route.stations.items

stations_suc : (rows : List TableRow) (n : ℕ) (route : Route) → Some route ≡ option_map (λ (row : TableRow). row.route) (slice_get rows n)
    → flat_map route_stations (take (suc n) rows) ≡ flat_map route_stations (take n rows) ++ route.stations.items
stations_suc [] n route at = let e : Some route ≡ None = at in cc
stations_suc (x ∷ rows) zero route at =
    append-nil x.route.stations.items ∙ ap (λ (r : Route). r.stations.items) (sym (same_Some route x.route at))
stations_suc (x ∷ rows) (suc n) route at =
    ap (λ ss. x.route.stations.items ++ ss) (stations_suc rows n route at)
    ∙ sym (append_assoc x.route.stations.items (flat_map route_stations (take n rows)) route.stations.items)

pub stations_more : (rows : List TableRow) (n : ℕ) (route : Route) → Some route ≡ option_map (λ (row : TableRow). row.route) (slice_get rows n)
    → flat_map route_stations (take (n + 1) rows) ≡ flat_map route_stations (take n rows) ++ route.stations.items
stations_more rows n route at = rw add-one (stations_suc rows n route at)

pub route_there : (rows : List TableRow) (n : ℕ) → n < length rows → option_map (λ (row : TableRow). row.route) (slice_get rows n) ≡ None → ⊥
route_there [] n lt e = omega arith
route_there (x ∷ rows) zero lt e = let f : Some x.route ≡ None = e in cc
route_there (x ∷ rows) (suc n) lt e = route_there rows n (omega arith) e

-- what is collected is of some route, and nothing else
has_station : (rows : List TableRow) (s : Station) (k : ℕ) (row : TableRow) → k < length rows → slice_index_or rows k row ≡ row → Contains row.route.stations.items s → Contains (flat_map route_stations rows) s
has_station [] s k row lt at h = absurd (omega arith)
has_station (x ∷ rows) s zero row lt at h =
    Contains-append_left x.route.stations.items (flat_map route_stations rows) s (subst (λ (r : TableRow). Contains r.route.stations.items s) (sym at) h)
has_station (x ∷ rows) s (suc k) row lt at h =
    Contains-append_right x.route.stations.items (flat_map route_stations rows) s (has_station rows s k row (omega arith) at h)

of_some_route : (rows : List TableRow) (s : Station) → Contains (flat_map route_stations rows) s → IsStationOf rows s
of_some_route [] s h = let lt : h.0 < 0 = h.1 in absurd (omega arith)
of_some_route (x ∷ rows) s h = elim (Contains-append_cases x.route.stations.items (flat_map route_stations rows) s h) [
  | inl here ↦ (0, x, omega arith, refl, here)
  | inr later ↦ (
      let r = of_some_route rows s later in
      let lt : r.0 < length rows = r.2 in
      (suc r.0, r.1, omega arith, r.3, r.4))
]

-- the order that a station derives, and the order of a board
abbrev pub station_cmp : Station → Station → Ordering
station_cmp = cmp-value.it

abbrev pub station_eq : Station → Station → Bool
station_eq = eq-value.it

pub derived_eq : (a b : Station) → station_eq a b ≡ same_station a b
derived_eq (Line h) (Line k) = refl
derived_eq (Line h) (Inlet c) = refl
derived_eq (Line h) Outlet = refl
derived_eq (Inlet b) (Line k) = refl
derived_eq (Inlet b) (Inlet c) = refl
derived_eq (Inlet b) Outlet = refl
derived_eq Outlet (Line k) = refl
derived_eq Outlet (Inlet c) = refl
derived_eq Outlet Outlet = refl

nat_less : (a b : ℕ) → nat_cmp a b ≡ Less → a < b
nat_less a b e = by_ranked (a < b) (a ≡ b) (b < a) (nat_cmp a b) (ranked a b (nat_cmp a b) refl)
    (λ f lt. lt)
    (λ f same. absurd (let g : Equal ≡ Less = sym f ∙ e in cc))
    (λ f gt. absurd (let g : Greater ≡ Less = sym f ∙ e in cc))

bit : (x : Bool) → cond x 1 0 ≤ 1
bit true = omega arith
bit false = omega arith

bool_less : (x y : Bool) → bool_cmp x y ≡ Less → cond x 1 0 < cond y 1 0
bool_less false false e = absurd (let g : Equal ≡ Less = e in cc)
bool_less false true e = omega arith
bool_less true false e = absurd (let g : Greater ≡ Less = e in cc)
bool_less true true e = absurd (let g : Equal ≡ Less = e in cc)

hop_less : (a b : ℕ) (x y : Bool) → ordering_then (nat_cmp a b) (bool_cmp x y) ≡ Less → 2 * a + cond x 1 0 < 2 * b + cond y 1 0
hop_less a b x y e = by_ranked (a < b) (a ≡ b) (b < a) (nat_cmp a b) (ranked a b (nat_cmp a b) refl)
    (λ f lt. let p = bit x in let q = bit y in omega arith)
    (λ f same. let p : cond x 1 0 < cond y 1 0 = bool_less x y (subst (λ (o : Ordering). ordering_then o (bool_cmp x y) ≡ Less) f e) in omega arith)
    (λ f gt. absurd (let g : Greater ≡ Less = subst (λ (o : Ordering). ordering_then o (bool_cmp x y) ≡ Less) f e in cc))

ordered : (a b : Station) → station_cmp a b ≡ Less → IsStationBefore a b
ordered (Line h) (Line k) e = hop_less h.channel.0 k.channel.0 h.back k.back e
ordered (Line h) (Inlet c) e = tt
ordered (Line h) Outlet e = tt
ordered (Inlet b) (Line k) e = let g : Greater ≡ Less = e in absurd (cc)
ordered (Inlet b) (Inlet c) e = nat_less b.0 c.0 e
ordered (Inlet b) Outlet e = tt
ordered Outlet (Line k) e = let g : Greater ≡ Less = e in absurd (cc)
ordered Outlet (Inlet c) e = let g : Greater ≡ Less = e in absurd (cc)
ordered Outlet Outlet e = let g : Equal ≡ Less = e in absurd (cc)

each_ordered : (s : Station) (ss : List Station) → AllByRecursion (λ t. station_cmp s t ≡ Less) ss → AllByRecursion (IsStationBefore s) ss
each_ordered s [] all = tt
each_ordered s (t ∷ ss) all = (ordered s t all.0, each_ordered s ss all.1)

in_order : (ss : List Station) → IsStrictlySortedBy station_cmp ss → AreStationsInOrder ss
unfolding IsStrictlySortedBy
in_order [] sorted = tt
in_order (s ∷ ss) sorted = (each_ordered s ss sorted.0, in_order ss sorted.1)

pub all_stations_are : (rows : List TableRow) (collected sorted kept : List Station) → collected ≡ flat_map route_stations rows → IsPermutation collected sorted → IsSorted station_cmp sorted
    → kept ≡ dedup station_eq sorted → AreAllStations rows kept
all_stations_are rows collected sorted kept from moved in_turn once = record {
  every = λ s h.
      let there : Contains collected s = subst (λ (ss : List Station). Contains ss s) (sym from) (has_station rows s h.0 h.1 h.2 h.3 h.4) in
      subst (λ (ss : List Station). Contains ss s) (sym once)
      (Contains-dedup laws-law (λ a b e. same_station_is a b (sym (derived_eq a b) ∙ e)) sorted s (Contains-permutation collected sorted s moved there));
  only = λ s h.
      let there : Contains sorted s = Contains-from_dedup station_eq sorted s (subst (λ (ss : List Station). Contains ss s) once h) in
      of_some_route rows s (subst (λ (ss : List Station). Contains ss s) from (Contains-permutation sorted collected s (IsPermutation-sym collected sorted moved) there));
  order = in_order kept (subst (IsStrictlySortedBy station_cmp) (sym once) (IsStrictlySortedBy-dedup total-law matches_eq-law sorted in_turn));
}
