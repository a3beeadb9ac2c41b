-- The stations of a route from one on, and what stands there from the last to the first.
use Rattle.std.proofs.Common.{ℕ, true, eqb, List, [], ◌∷◌, ◌++◌, map, reverse, ◌≡◌, Option, Some, None, refl, ap, sym, ◌∙◌, subst}
use Rattle.std.proofs.lemmas.Bool.{false≢true, eqb-true}
use Rattle.std.proofs.lemmas.List.{append-nil, map-id, reverse-append}
use Rattle.std.proofs.lemmas.List.Concat.{flat_map-append}
use Rattle.std.specs.List.{flat_map}
use Rattle.sdl_routes.specs.declared.route.Hop.{Hop}
use Rattle.sdl_signal.specs.declared.values.Item.{Item}
use Rattle.sdl_routes.specs.declared.route.Station.{Station}
use Rattle.sdl_routes.specs.declared.route.Station.TheVariants.{Line}
use Rattle.sdl_forward_opening.specs.declared.worker.Worker.{Worker}
use Rattle.sdl_run_outcome.specs.Stations.{Ways, Leads, AreWays, IsWay, Among, first, next, place}
use Rattle.sdl_run_outcome.specs.Books.{Books, InOrder, NoOther, of_route}
use Rattle.sdl_run_outcome.specs.Steps.{bound_for}
use Rattle.sdl_block_hand.specs.Work.{is_station}
use Rattle.sdl_run_outcome.proofs.Comparisons.{same_station_is, same_station_itself}
use Rattle.sdl_run_outcome.proofs.Lists.{all_weaker, all_every, filter_within}
use Rattle.sdl_run_outcome.proofs.AlongStations.{ends_at}

pub same_route : (i : Item) (r : ℕ) → eqb i.route.0 r ≡ true → i.route.0 ≡ r
same_route i r e = eqb-true i.route.0 r e

pub is_station_is : (s : Station) (o : Option Station) → is_station s o ≡ true → o ≡ Some s
is_station_is s None e = absurd (false≢true e)
is_station_is s (Some x) e = ap Some (same_station_is x s e)

-- the items of r among those bound for the station behind
pub route_bound : (t : Ways) (r : ℕ) (w : Worker) (s : Station) → next t w r ≡ Some s → (xs : List Item) → of_route r (bound_for t w s xs) ≡ of_route r xs
route_bound t r w s n xs =
    let test = λ (i : Item). is_station s (next t w i.route.0) in
    let of = λ (i : Item). eqb i.route.0 r in
    let passes = λ (i : Item) (e : of i ≡ true). subst (λ (m : ℕ). is_station s (next t w m) ≡ true) (sym (same_route i r e)) (subst (λ (o : Option Station). is_station s o ≡ true) (sym n) (same_station_itself s)) in
    ap (of_route r) (sym (map-id (bound_for t w s xs)))
    ∙ (filter_within of (λ (i : Item). i) test xs (all_every (λ (i : Item). of i ≡ true → test i ≡ true) passes xs) ∙ ap (of_route r) (map-id xs))

-- a route's stations from one on: the lines left, and then the place of the worker where it ends
unfoldable pub way : Ways → ℕ → List Hop → List Station
way t r hs = map Line hs ++ place (t.finish r) ∷ []

pub ways : {t : Ways} (r : ℕ) → (w : IsWay t r) → t.stations r ≡ way t r w.lines
unfolding way
ways r w = w.are

unfoldable pub head : Ways → ℕ → List Hop → Station
head t r [] = place (t.finish r)
head t r (h ∷ hs) = Line h

pub first_way : (t : Ways) (r : ℕ) (hs : List Hop) → first (way t r hs) ≡ Some (head t r hs)
unfolding way head
first_way t r [] = refl
first_way t r (h ∷ hs) = refl

-- what stands at the stations, from the last to the first
pub back_from : {A B : Type 0} (f : A → List B) (x : A) (xs : List A) → flat_map f (reverse (x ∷ xs)) ≡ flat_map f (reverse xs) ++ f x
back_from f x xs =
    ap (flat_map f) (reverse-append (x ∷ []) xs) ∙ (flat_map-append f (reverse xs) (x ∷ []) ∙ ap (λ (ys : List _). flat_map f (reverse xs) ++ ys) (append-nil (f x)))

-- what arrived at an agent came along a route that ends there
pub no_other : (t : Ways) (b : Books) → AreWays t → InOrder t b → NoOther t b
no_other t b ok o w a = all_weaker (λ (i : Item). Among (place w) (t.stations i.route.0)) (λ (i : Item). Leads t i.route.0 × (t.finish i.route.0 ≡ w)) (λ i m. ends_at t ok w a i.route.0 m) (b.arrived w) (o.let_in w a)
