-- What is gathered by a test that one worker passes is what stands for that worker; so it is with stations.
use Rattle.std.proofs.Common.{◌≡◌, ◌≢◌, ℕ, zero, suc, ◌≤◌, Bool, true, false, cond, Option, None, Some, List, [], ◌∷◌, ◌++◌, reverse, length, slice_get, refl, ap, sym, ◌∙◌, subst, arith, append_assoc}
use Rattle.std.proofs.lemmas.List.{append-nil}
use Rattle.std.proofs.lemmas.List.Concat.{flat_map-append}
use Rattle.std.proofs.lemmas.Grind.{reverse_onto}
use Rattle.std.specs.List.{AllByRecursion, flat_map}
use Rattle.std.proofs.lemmas.Bool.{cond_both}
use Rattle.sdl_signal.specs.declared.values.Item.{Item}
use Rattle.sdl_routes.specs.Routes.{EachOnce}
use Rattle.sdl_routes.specs.declared.route.Station.{Station}
use Rattle.sdl_routes.specs.declared.route.Station.TheVariants.{Line, Inlet, Outlet}
use Rattle.sdl_forward_opening.specs.declared.worker.Worker.{Worker}
use Rattle.sdl_forward_opening.specs.declared.worker.Worker.TheVariants.{Block, Environment, Forwarder}
use Rattle.sdl_forward.specs.Boards.{same_station, stations_of, waiting}
use Rattle.sdl_run_outcome.specs.Stations.{same_worker, place, taker}
use Rattle.sdl_run_outcome.specs.Outcome.{of_worker}
use Rattle.sdl_run_outcome.proofs.Comparisons.{same_worker_is, same_station_is}
use Rattle.sdl_run_recount.specs.Along.{given, gathered, laid, is_at}

gathered_apart : (v : Worker) (ws : List Worker) (xss : List (List Item)) → AllByRecursion (λ w. v ≢ w) ws → gathered (λ w. same_worker w v) ws xss ≡ []
gathered_apart v [] xss a = refl
gathered_apart v (w ∷ ws) [] a = refl
gathered_apart v (w ∷ ws) (xs ∷ xss) a =
    cond_both (same_worker w v) xs [] (λ ys. ys ++ gathered (λ x. same_worker x v) ws xss ≡ []) (λ t. absurd (a.0 (sym (same_worker_is w v t)))) (λ f. gathered_apart v ws xss a.1)

pub gathered_one : (v : Worker) (ws : List Worker) (xss : List (List Item)) → EachOnce ws → gathered (λ w. same_worker w v) ws xss ≡ of_worker v ws xss
gathered_one v [] xss o = refl
gathered_one v (w ∷ ws) [] o = refl
gathered_one v (w ∷ ws) (xs ∷ xss) o =
    let more = gathered (λ (x : Worker). same_worker x v) ws xss in
    let P = λ (b : Bool). same_worker w v ≡ b → given b xs ++ more ≡ cond b xs (of_worker v ws xss) in
    let cases : (b : Bool) → P b = λ b. elim b as P [
      | true ↦ (λ t. ap (λ (ys : List Item). xs ++ ys) (gathered_apart v ws xss (subst (λ (x : Worker). AllByRecursion (λ y. x ≢ y) ws) (same_worker_is w v t) o.0)) ∙ append-nil xs)
      | false ↦ (λ f. gathered_one v ws xss o.1)
    ] in
    cases (same_worker w v) refl

laid_apart : (s : Station) (rs : List (Station × List Item)) → AllByRecursion (λ w. s ≢ w) (stations_of rs) → laid (λ w. same_station w s) rs ≡ []
laid_apart s [] a = refl
laid_apart s (r ∷ rs) a = cond_both (same_station r.0 s) r.1 [] (λ ys. ys ++ laid (λ x. same_station x s) rs ≡ []) (λ t. absurd (a.0 (sym (same_station_is r.0 s t)))) (λ f. laid_apart s rs a.1)

pub laid_one : (s : Station) (rs : List (Station × List Item)) → EachOnce (stations_of rs) → laid (λ w. same_station w s) rs ≡ waiting rs s
laid_one s [] o = refl
laid_one s (r ∷ rs) o =
    let more = laid (λ (x : Station). same_station x s) rs in
    let P = λ (b : Bool). same_station r.0 s ≡ b → given b r.1 ++ more ≡ cond b r.1 (waiting rs s) in
    let cases : (b : Bool) → P b = λ b. elim b as P [
      | true ↦ (λ t. ap (λ (ys : List Item). r.1 ++ ys) (laid_apart s rs (subst (λ (x : Station). AllByRecursion (λ y. x ≢ y) (stations_of rs)) (same_station_is r.0 s t) o.0)) ∙ append-nil r.1)
      | false ↦ (λ f. laid_one s rs o.1)
    ] in
    cases (same_station r.0 s) refl

-- what no test passes
pub gathered_never : (ws : List Worker) (xss : List (List Item)) → gathered (λ w. false) ws xss ≡ []
gathered_never [] xss = refl
gathered_never (w ∷ ws) [] = refl
gathered_never (w ∷ ws) (xs ∷ xss) = gathered_never ws xss

pub laid_never : (rs : List (Station × List Item)) → laid (λ s. false) rs ≡ []
laid_never [] = refl
laid_never (r ∷ rs) = laid_never rs

-- tests that agree
gathered_agrees : (p q : Worker → Bool) → ((w : Worker) → p w ≡ q w) → (ws : List Worker) (xss : List (List Item)) → gathered p ws xss ≡ gathered q ws xss
gathered_agrees p q h [] xss = refl
gathered_agrees p q h (w ∷ ws) [] = refl
gathered_agrees p q h (w ∷ ws) (xs ∷ xss) =
    ap (λ (b : Bool). given b xs ++ gathered p ws xss) (h w) ∙ ap (λ (ys : List Item). given (q w) xs ++ ys) (gathered_agrees p q h ws xss)

place_test : (w : Worker) (s : Station) → same_station (place w) s ≡ same_worker w (taker s)
place_test (Block b) (Inlet c) = refl
place_test (Block b) Outlet = refl
place_test (Block b) (Line k) = refl
place_test Environment (Inlet c) = refl
place_test Environment Outlet = refl
place_test Environment (Line k) = refl
place_test (Forwarder h) (Inlet c) = refl
place_test (Forwarder h) Outlet = refl
place_test (Forwarder h) (Line k) = refl

-- what stands at a station, where there is one
abbrev pub at_place : (Station → List Item) → Option Station → List Item
at_place f None = []
at_place f (Some s) = f s

pub stands : (ws : List Worker) (kept : List (List Item)) (rests : List (Station × List Item)) → EachOnce ws → EachOnce (stations_of rests) → (o : Option Station)
    → gathered (λ w. is_at (place w) o) ws kept ++ laid (λ s. is_at s o) rests ≡ at_place (λ s. of_worker (taker s) ws kept ++ waiting rests s) o
stands ws kept rests a b None = ap (λ (ys : List Item). ys ++ laid (λ s. false) rests) (gathered_never ws kept) ∙ laid_never rests
stands ws kept rests a b (Some x) =
    ap (λ (ys : List Item). ys ++ laid (λ s. same_station s x) rests) (gathered_agrees (λ w. same_station (place w) x) (λ w. same_worker w (taker x)) (λ w. place_test w x) ws kept ∙ gathered_one (taker x) ws kept a)
    ∙ ap (λ (ys : List Item). of_worker (taker x) ws kept ++ ys) (laid_one x rests b)

gathered_none : (test : Worker → Bool) (ws : List Worker) → gathered test ws [] ≡ []
gathered_none test [] = refl
gathered_none test (w ∷ ws) = refl

-- a list more at the end
pub gathered_last : (test : Worker → Bool) (ws more : List Worker) (w : Worker) (xss : List (List Item)) (xs : List Item) → length xss ≡ length ws
    → gathered test (ws ++ w ∷ more) (xss ++ xs ∷ []) ≡ gathered test (ws ++ w ∷ more) xss ++ given (test w) xs
gathered_last test [] more w [] xs e = ap (λ (ys : List Item). given (test w) xs ++ ys) (gathered_none test more) ∙ append-nil (given (test w) xs)
gathered_last test [] more w (ys ∷ yss) xs e = absurd (omega arith)
gathered_last test (v ∷ vs) more w [] xs e = absurd (omega arith)
gathered_last test (v ∷ vs) more w (ys ∷ yss) xs e =
    ap (λ (zs : List Item). given (test v) ys ++ zs) (gathered_last test vs more w yss xs (omega arith)) ∙ sym (append_assoc (given (test v) ys) (gathered test (vs ++ w ∷ more) yss) (given (test w) xs))

-- what stands at the places below n, from the last of them to the first
abbrev pub at_places : (Station → List Item) → List Station → ℕ → List Item
at_places f ss zero = []
at_places f ss (suc n) = at_place f (slice_get ss n) ++ at_places f ss n

no_places : (f : Station → List Item) (n : ℕ) → at_places f [] n ≡ []
no_places f zero = refl
no_places f (suc n) = no_places f n

behind_one : (f : Station → List Item) (s : Station) (ss : List Station) (n : ℕ) → at_places f (s ∷ ss) (suc n) ≡ at_places f ss n ++ f s
behind_one f s ss zero = append-nil (f s)
behind_one f s ss (suc n) =
    ap (λ (xs : List Item). at_place f (slice_get ss n) ++ xs) (behind_one f s ss n)
    ∙ sym (append_assoc (at_place f (slice_get ss n)) (at_places f ss n) (f s))

-- the places from the last to the first are the stations from the last to the first
pub all_stations : (f : Station → List Item) (ss : List Station) (n : ℕ) → length ss ≤ n → at_places f ss n ≡ flat_map f (reverse ss)
all_stations f [] n h = no_places f n
all_stations f (s ∷ ss) zero h = absurd (omega arith)
all_stations f (s ∷ ss) (suc n) h =
    behind_one f s ss n
    ∙ (ap (λ (xs : List Item). xs ++ f s) (all_stations f ss n (omega arith))
    ∙ (ap (λ (xs : List Item). flat_map f (reverse ss) ++ xs) (sym (append-nil (f s)))
    ∙ (sym (flat_map-append f (reverse ss) (s ∷ [])) ∙ ap (flat_map f) (sym (reverse_onto ss s [])))))
