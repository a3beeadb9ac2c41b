-- What holds of all that was sent holds of all that is still on its way: what is left along a route was output along it.
use Rattle.std.proofs.Common.{ℕ, Bool, true, false, cond, eqb, List, [], ◌∷◌, reverse, refl, inl, inr, sym, subst}
use Rattle.std.proofs.lemmas.Bool.{eq-eqb}
use Rattle.std.specs.List.{flat_map, AllByRecursion}
use Rattle.sdl_signal.specs.declared.values.Item.{Item}
use Rattle.sdl_routes.specs.declared.route.Station.{Station}
use Rattle.sdl_forward_opening.specs.declared.worker.Worker.{Worker}
use Rattle.sdl_forward_opening.specs.Workers.{Ways, IsAgent, Among}
use Rattle.sdl_run_outcome.specs.Stations.{Leads, AreWays, IsWay}
use Rattle.sdl_run_outcome.specs.Books.{Books, InOrder, of_route, outs, came, left, standing}
use Rattle.sdl_run_outcome.proofs.Lists.{all_front, all_end, all_filter}
use Rattle.sdl_run_outcome.proofs.Along.{back_from}

of_route_tail : (P : Item → Type 0) (b : Bool) (x : Item) (xs : List Item) → AllByRecursion P (cond b (x ∷ xs) xs) → AllByRecursion P xs
of_route_tail P true x xs h = h.1
of_route_tail P false x xs h = h

-- what holds of the items of each route that passes s holds of all that are on such a route
by_route : (P : Item → Type 0) (Q : ℕ → Type 0) (xs : List Item) → AllByRecursion (λ (i : Item). Q i.route.0) xs → ((r : ℕ) → Q r → AllByRecursion P (of_route r xs)) → AllByRecursion P xs
by_route P Q [] q h = tt
by_route P Q (x ∷ xs) q h =
    let r = x.route.0 in
    let here = subst (λ (b : Bool). AllByRecursion P (cond b (x ∷ of_route r xs) (of_route r xs))) (eq-eqb r r refl) (h r q.0) in
    (here.0, by_route P Q xs q.1 (λ m a. of_route_tail P (eqb x.route.0 m) x (of_route m xs) (h m a)))

all_back : {A : Type 0} (P : Item → Type 0) (f : A → List Item) (ss : List A) → AllByRecursion P (flat_map f (reverse ss)) → (s : A) → Among s ss → AllByRecursion P (f s)
all_back P f [] h s m = absurd m
all_back P f (x ∷ xs) h s m =
    let both = subst (AllByRecursion P) (back_from f x xs) h in
    elim m [
      | inl e ↦ subst (λ (y : _). AllByRecursion P (f y)) (sym e) (all_end P (flat_map f (reverse xs)) (f x) both)
      | inr n ↦ all_back P f xs (all_front P (flat_map f (reverse xs)) (f x) both) s n
    ]

leads_by : (t : Ways) (r : ℕ) (s : Station) → Among s (t.stations r) → Leads t r
leads_by t r s m e = subst (λ (ss : List Station). Among s ss) e m

pub standing_all : (t : Ways) (b : Books) (P : Item → Type 0) → AreWays t → InOrder t b → ((w : Worker) → IsAgent w → AllByRecursion P (b.sent w)) → (s : Station) → AllByRecursion P (standing b s)
standing_all t b P ok o h s =
    by_route P (λ r. Among s (t.stations r)) (standing b s) (o.in_place s)
    (λ r m.
    let leads = leads_by t r s m in
    let is_way : IsWay t r = ok r leads in
    let all : AllByRecursion P (outs t b r) = all_filter P (λ (i : Item). eqb i.route.0 r) (b.sent (t.start r)) (h (t.start r) is_way.from) in
    let along = subst (AllByRecursion P) (o.in_order r leads) all in
    let stands = all_front P (flat_map (λ u. of_route r (standing b u)) (reverse (t.stations r))) (of_route r (b.outgoing (t.start r))) (all_end P (came t b r) (left t b r) along) in
    all_back P (λ u. of_route r (standing b u)) (t.stations r) stands s m)
