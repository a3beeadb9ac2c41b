-- What all workers have, and what rests at all stations, added up; and what stands on the routes.
use Rattle.std.proofs.Common.{ℕ, ◌+◌, ◌≤◌, List, [], ◌∷◌, ◌++◌, length, map, ◌≡◌, ◌≢◌, inl, inr, refl, ap, sym, ◌∙◌, subst, arith, sum_by}
use Rattle.std.specs.List.{AllByRecursion}
use Rattle.std.proofs.lemmas.Bool.{cond_both, cond-true, cond-false}
use Rattle.std.proofs.lemmas.List.Sums.{sum_by-cons}
use Rattle.sdl_signal.specs.declared.values.Item.{Item}
use Rattle.sdl_routes.specs.declared.route.Hop.{Hop}
use Rattle.sdl_routes.specs.declared.route.Station.{Station}
use Rattle.sdl_routes.specs.Routes.{EachOnce}
use Rattle.sdl_forward.specs.Boards.{same_station, stations_of, waiting}
use Rattle.sdl_forward_opening.specs.declared.worker.Worker.{Worker}
use Rattle.sdl_forward_opening.specs.declared.worker.Worker.TheVariants.{Block, Environment, Forwarder}
use Rattle.sdl_run_outcome.specs.Stations.{Among, Once, place, taker, same_worker}
use Rattle.sdl_run_outcome.specs.Plan.{blocks_from}
use Rattle.sdl_run_outcome.specs.Outcome.{of_worker}
use Rattle.sdl_run_outcome.proofs.Lists.{all_weaker, all_map}
use Rattle.sdl_run_outcome.proofs.Comparisons.{same_station_is, same_station_itself, other_station, same_worker_is, same_worker_itself, other_worker}
use Rattle.sdl_run_outcome.proofs.Workers.{place_apart, taker_place}
use Rattle.sdl_run_outcome.proofs.Sums.{sum_same, sum_none}
use Rattle.sdl_run_ledger.proofs.Spread.{all_apart}

apart_from : {X : Type 0} (x : X) (ys : List X) → AllByRecursion (λ y. x ≢ y) ys → (y : X) → Among y ys → x ≢ y
apart_from x [] h y m = absurd m
apart_from x (z ∷ zs) h y m = elim m [ inl e ↦ (λ f. h.0 (f ∙ e)) | inr n ↦ apart_from x zs h.1 y n ]

-- who is none of the workers has nothing
pub no_worker : (w : Worker) (ws : List Worker) (xss : List (List Item)) → (Among w ws → ⊥) → of_worker w ws xss ≡ []
no_worker w [] xss n = refl
no_worker w (v ∷ vs) [] n = refl
no_worker w (v ∷ vs) (xs ∷ xss) n =
    cond-false (same_worker v w) xs (of_worker w vs xss) (other_worker v w (λ e. n (inl (sym e)))) ∙ no_worker w vs xss (λ m. n (inr m))

nothing_for : (w : Worker) (ws : List Worker) → of_worker w ws [] ≡ []
nothing_for w [] = refl
nothing_for w (v ∷ vs) = refl

-- what all workers have is what the list has
pub over_workers : (ws : List Worker) (xss : List (List Item)) → EachOnce ws → length xss ≤ length ws → sum_by (λ w. length (of_worker w ws xss)) ws ≡ sum_by length xss
over_workers [] [] once few = refl
over_workers [] (xs ∷ xss) once few = absurd (omega arith)
over_workers (v ∷ vs) [] once few = sum_none (λ w. length (of_worker w (v ∷ vs) [])) (v ∷ vs) (λ w m. refl)
over_workers (v ∷ vs) (xs ∷ xss) once few =
    let f = λ (w : Worker). length (of_worker w (v ∷ vs) (xs ∷ xss)) in
    let a = sum_by-cons f v vs in
    let b = ap length (cond-true (same_worker v v) xs (of_worker v vs xss) (same_worker_itself v)) in
    let c = sum_same f (λ w. length (of_worker w vs xss)) vs (λ w m. ap length (cond-false (same_worker v w) xs (of_worker w vs xss) (other_worker v w (apart_from v vs once.0 w m)))) in
    let d = over_workers vs xss once.1 (omega arith) in
    let e = sum_by-cons length xs xss in
    omega (arith, a, b, c, d, e)

-- at no station of the board
pub no_station : (s : Station) (rests : List (Station × List Item)) → (Among s (stations_of rests) → ⊥) → waiting rests s ≡ []
no_station s [] n = refl
no_station s (r ∷ rests) n = cond-false (same_station r.0 s) r.1 (waiting rests s) (other_station r.0 s (λ e. n (inl (sym e)))) ∙ no_station s rests (λ m. n (inr m))

-- what rests at all stations
pub over_stations : (rests : List (Station × List Item)) → EachOnce (stations_of rests) → sum_by (λ s. length (waiting rests s)) (stations_of rests) ≡ sum_by (λ r. length r.1) rests
over_stations [] once = refl
over_stations (r ∷ rests) once =
    let f = λ (s : Station). length (waiting (r ∷ rests) s) in
    let a = sum_by-cons f r.0 (stations_of rests) in
    let b = ap length (cond-true (same_station r.0 r.0) r.1 (waiting rests r.0) (same_station_itself r.0)) in
    let c = sum_same f (λ s. length (waiting rests s)) (stations_of rests) (λ s m. ap length (cond-false (same_station r.0 s) r.1 (waiting rests s) (other_station r.0 s (apart_from r.0 (stations_of rests) once.0 s m)))) in
    let d = over_stations rests once.1 in
    let e = sum_by-cons (λ (x : Station × List Item). length x.1) r rests in
    omega (arith, a, b, c, d, e)

pub once_each : (ss : List Station) → Once ss → EachOnce ss
once_each [] h = tt
once_each (s ∷ ss) h = (all_apart same_station same_station_is same_station_itself s ss h.0, once_each ss h.1)

-- the places of the workers
pub places_once : (ws : List Worker) → EachOnce ws → EachOnce (map place ws)
places_once [] h = tt
places_once (w ∷ ws) h = (all_map (λ s. place w ≢ s) place ws (all_weaker (λ v. w ≢ v) (λ v. place w ≢ place v) (λ v n. place_apart w v n) ws h.0), places_once ws h.1)

pub among_places : (s : Station) (ws : List Worker) → Among (taker s) ws → Among s (map place ws)
among_places s [] m = absurd m
among_places s (w ∷ ws) m = elim m [ inl e ↦ inl (sym (taker_place s) ∙ ap place e) | inr n ↦ inr (among_places s ws n) ]

-- what holds of the lists of the blocks from n on, each by its block
pub AreAt : (Worker → Item → Type 0) → ℕ → List (List Item) → Type 0
AreAt P n [] = Unit {0}
AreAt P n (xs ∷ xss) = AllByRecursion (P (Block (record { 0 = n }))) xs × AreAt P (n + 1) xss

pub at_none : (P : Worker → Item → Type 0) (n : ℕ) → AreAt P n []
unfolding AreAt
at_none P n = tt

pub at_next : (P : Worker → Item → Type 0) (n : ℕ) (xs : List Item) (xss : List (List Item)) → AllByRecursion (P (Block (record { 0 = n }))) xs → AreAt P (n + 1) xss → AreAt P n (xs ∷ xss)
unfolding AreAt
at_next P n xs xss h k = (h, k)

-- holds of what each worker has, where the list of the blocks is followed by one for the environment and no more
pub all_workers : (P : Worker → Item → Type 0) (n : ℕ) (xss : List (List Item)) (ys : List Item) (vs : List Worker) → AreAt P n xss → AllByRecursion (P Environment) ys
    → (w : Worker) → AllByRecursion (P w) (of_worker w (blocks_from n (length xss) ++ Environment ∷ vs) (xss ++ ys ∷ []))
unfolding AreAt
all_workers P n [] ys vs h e w =
    cond_both (same_worker Environment w) ys (of_worker w vs []) (AllByRecursion (P w))
    (λ t. subst (λ v. AllByRecursion (P v) ys) (same_worker_is Environment w t) e)
    (λ f. subst (AllByRecursion (P w)) (sym (nothing_for w vs)) tt)
all_workers P n (xs ∷ xss) ys vs h e w =
    cond_both (same_worker (Block (record { 0 = n })) w) xs (of_worker w (blocks_from (n + 1) (length xss) ++ Environment ∷ vs) (xss ++ ys ∷ [])) (AllByRecursion (P w))
    (λ t. subst (λ v. AllByRecursion (P v) xs) (same_worker_is (Block (record { 0 = n })) w t) h.0)
    (λ f. all_workers P (n + 1) xss ys vs h.1 e w)

-- a forwarder has nothing, where the lists behind the environment's are empty
nothing_behind : (k : Hop) (vs : List Worker) (zss : List (List Item)) → AllByRecursion (λ (zs : List Item). zs ≡ []) zss → of_worker (Forwarder k) vs zss ≡ []
nothing_behind k [] zss h = refl
nothing_behind k (v ∷ vs) [] h = refl
nothing_behind k (v ∷ vs) (zs ∷ zss) h =
    cond_both (same_worker v (Forwarder k)) zs (of_worker (Forwarder k) vs zss) (λ (xs : List Item). xs ≡ []) (λ t. h.0) (λ f. nothing_behind k vs zss h.1)

pub forwarder_has_none : (k : Hop) (n : ℕ) (xss : List (List Item)) (ys : List Item) (vs : List Worker) (zss : List (List Item)) → AllByRecursion (λ (zs : List Item). zs ≡ []) zss
    → of_worker (Forwarder k) (blocks_from n (length xss) ++ Environment ∷ vs) (xss ++ ys ∷ zss) ≡ []
forwarder_has_none k n [] ys vs zss h = nothing_behind k vs zss h
forwarder_has_none k n (xs ∷ xss) ys vs zss h = forwarder_has_none k (n + 1) xss ys vs zss h
