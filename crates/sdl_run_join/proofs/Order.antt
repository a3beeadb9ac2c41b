-- From delay lines and from what each worker put to the order along each route.
use Rattle.std.proofs.Common.{ℕ, Bool, true, false, cond, eqb, List, [], ◌∷◌, ◌++◌, reverse, ◌≡◌, ◌⊎◌, Option, Some, None, option_map, refl, inl, inr, ap, sym, ◌∙◌, subst}
use Rattle.std.proofs.lemmas.Bool.{eq-eqb}
use Rattle.std.proofs.lemmas.Option.{none-some, same_Some}
use Rattle.std.proofs.lemmas.List.{append_assoc, append-nil}
use Rattle.std.proofs.lemmas.List.Elements.{filter-append}
use Rattle.std.specs.List.{filter, flat_map, AllByRecursion}
use Rattle.sdl_signal.specs.declared.values.Item.{Item}
use Rattle.sdl_routes.specs.declared.route.Hop.{Hop}
use Rattle.sdl_routes.specs.declared.route.Station.{Station}
use Rattle.sdl_routes.specs.declared.route.Station.TheVariants.{Line, Inlet, Outlet}
use Rattle.sdl_queue.specs.declared.rule.Tagged.{Tagged}
use Rattle.sdl_queue.specs.DelayLine.{items_by}
use Rattle.sdl_queue.specs.Ends.{FeedEnd, Account, items_of}
use Rattle.sdl_queue.proofs.Puts.{items_by-append}
use Rattle.sdl_forward_opening.specs.declared.worker.Worker.{Worker}
use Rattle.sdl_forward_opening.specs.declared.worker.Worker.TheVariants.{Block, Environment, Forwarder}
use Rattle.sdl_forward_ends.specs.Stations.{station_behind}
use Rattle.sdl_forward_opening.specs.Workers.{Ways, IsAgent, Among, first, next, place, taker}
use Rattle.sdl_block_hand.specs.Work.{is_station}
use Rattle.sdl_run_outcome.specs.Stations.{Leads, AreWays, IsWay, Once}
use Rattle.sdl_run_outcome.specs.Books.{Books, InOrder, of_route, outs, came, left, standing}
use Rattle.sdl_run_outcome.specs.Steps.{bound_for}
use Rattle.sdl_run_outcome.proofs.Lists.{all_front, all_end, all_append, all_weaker, all_both, all_every, all_map, all_passes, all_filter, filter_within, filter_none}
use Rattle.sdl_forward_opening.specs.Opens.{Brings}
use Rattle.sdl_run_outcome.proofs.AlongStations.{before_one, next_among, place_taker, after_rest, after_itself, next_agent}
use Rattle.sdl_run_outcome.proofs.Along.{same_route, is_station_is, route_bound, way, ways, head, first_way, back_from}
use Rattle.sdl_forward_ends.specs.Ends.{WorkerEnds, feed_at, put_at, number_at, taken_by}
use Rattle.sdl_run_join.specs.Joins.{given, pending, Joined}

all_forall : {X Y : Type 0} (Q : Y → X → Type 0) (xs : List X) → ((y : Y) → AllByRecursion (Q y) xs) → AllByRecursion (λ x. (y : Y) → Q y x) xs
all_forall Q [] h = tt
all_forall Q (x ∷ xs) h = (λ y. (h y).0, all_forall Q xs (λ y. (h y).1))

all_given : {X : Type 0} (A : Type 0) (P : X → Type 0) (xs : List X) → (A → AllByRecursion P xs) → AllByRecursion (λ x. A → P x) xs
all_given A P [] h = tt
all_given A P (x ∷ xs) h = (λ a. (h a).0, all_given A P xs (λ a. (h a).1))

-- a fact on what each feeder put holds of each thing with its feeder
by_feeder_tail : (P : Item → Type 0) (b : Bool) (x : Tagged) (xs : List Tagged) → AllByRecursion P (items_of (cond b (x ∷ xs) xs)) → AllByRecursion P (items_of xs)
by_feeder_tail P true x xs h = h.1
by_feeder_tail P false x xs h = h

by_feeder : (P : ℕ → Item → Type 0) (xs : List Tagged) → ((f : ℕ) → AllByRecursion (P f) (items_by f xs)) → AllByRecursion (λ (x : Tagged). P x.feeder x.item) xs
by_feeder P [] h = tt
by_feeder P (x ∷ xs) h =
    let here = subst (λ (b : Bool). AllByRecursion (P x.feeder) (items_of (cond b (x ∷ filter (λ (y : Tagged). eqb y.feeder x.feeder) xs) (filter (λ (y : Tagged). eqb y.feeder x.feeder) xs)))) (eq-eqb x.feeder x.feeder refl) (h x.feeder) in
    (here.0, by_feeder P xs (λ f. by_feeder_tail (P f) (eqb x.feeder f) x (filter (λ (y : Tagged). eqb y.feeder f) xs) (h f)))

-- who has no feed at a station has put nothing there
put_none : (o : Option FeedEnd) → option_map (λ (f : FeedEnd). f.number) o ≡ None → elim o as (λ _. List Item) [ None ↦ [] | Some f ↦ f.put ] ≡ []
put_none None e = refl
put_none (Some f) e = absurd (none-some f.number (sym e))

pub cases_number : (o : Option ℕ) → (o ≡ None) ⊎ ((n : ℕ) × (o ≡ Some n))
cases_number None = inl refl
cases_number (Some n) = inr (n, refl)

given_agent : (ends : Worker → WorkerEnds) (b : Books) (w : Worker) → IsAgent w → given ends b w ≡ b.sent w
given_agent ends b (Block n) a = refl
given_agent ends b Environment a = refl
given_agent ends b (Forwarder h) a = absurd a

pending_agent : (b : Books) (w : Worker) → IsAgent w → pending b w ≡ b.outgoing w
pending_agent b (Block n) a = refl
pending_agent b Environment a = refl
pending_agent b (Forwarder h) a = absurd a

regroup : {A : Type 0} (c f k l : List A) → ((c ++ f) ++ k) ++ l ≡ c ++ (f ++ (k ++ l))
regroup c f k l = simp append_assoc

module _ (t : Ways) (ends : Worker → WorkerEnds) (accounts : Station → Account) (b : Books) (ok : AreWays t) (j : Joined t ends accounts b) where
  starts_of : (w : Worker) → AllByRecursion (λ (i : Item). IsAgent w → t.start i.route.0 ≡ w) (given ends b w)
  starts_of (Block n) = all_weaker (λ (i : Item). t.start i.route.0 ≡ Block n) (λ (i : Item). Unit {0} → t.start i.route.0 ≡ Block n) (λ i e u. e) (b.sent (Block n)) (j.starts (Block n) tt)
  starts_of Environment = all_weaker (λ (i : Item). t.start i.route.0 ≡ Environment) (λ (i : Item). Unit {0} → t.start i.route.0 ≡ Environment) (λ i e u. e) (b.sent Environment) (j.starts Environment tt)
  starts_of (Forwarder h) = all_every (λ (i : Item). ⊥ → t.start i.route.0 ≡ Forwarder h) (λ i n. absurd n) (taken_by (ends (Forwarder h)))

  starts_put : (w : Worker) → AllByRecursion (λ (i : Item). IsAgent w → t.start i.route.0 ≡ w) ((j.went w).put ++ pending b w)
  starts_put w = subst (AllByRecursion (λ (i : Item). IsAgent w → t.start i.route.0 ≡ w)) (sym (j.went w).whole) (starts_of w)

  -- each worker puts an item where the item's route goes
  put_before : (w : Worker) (s : Station) → AllByRecursion (λ (i : Item). Brings t w i.route.0 s) (put_at (ends w) s)
  put_before w s =
      let put = (j.went w).put in
      subst (AllByRecursion (λ (i : Item). Brings t w i.route.0 s)) (sym ((j.went w).each s))
      (all_both (λ (i : Item). next t w i.route.0 ≡ Some s) (λ (i : Item). IsAgent w → t.start i.route.0 ≡ w) (bound_for t w s put)
      (all_weaker (λ (i : Item). is_station s (next t w i.route.0) ≡ true) (λ (i : Item). next t w i.route.0 ≡ Some s) (λ i e. is_station_is s (next t w i.route.0) e) (bound_for t w s put)
      (all_passes (λ (i : Item). is_station s (next t w i.route.0)) put))
      (all_filter (λ (i : Item). IsAgent w → t.start i.route.0 ≡ w) (λ (i : Item). is_station s (next t w i.route.0)) put
      (all_front (λ (i : Item). IsAgent w → t.start i.route.0 ≡ w) put (pending b w) (starts_put w))))

  things : Station → List Tagged
  things s = (accounts s).taken ++ (accounts s).left

  -- each thing at a station was put there by a worker that brings the item there
  abbrev IsKnown : Station → Tagged → Type 0
  IsKnown s x = (w : Worker) × (number_at (ends w) s ≡ Some x.feeder) × Brings t w x.item.route.0 s

  before_at : (s : Station) (f : ℕ) (w : Worker) → number_at (ends w) s ≡ Some f → AllByRecursion (λ (i : Item). Brings t w i.route.0 s) (items_by f ((accounts s).taken ++ (accounts s).left))
  before_at s f w e =
      subst (AllByRecursion (λ (i : Item). Brings t w i.route.0 s)) ((j.lanes s).fed w f e ∙ sym (items_by-append f (accounts s).taken (accounts s).left)) (put_before w s)

  known : (s : Station) → AllByRecursion (IsKnown s) ((accounts s).taken ++ (accounts s).left)
  known s =
      let all = (accounts s).taken ++ (accounts s).left in
      let each = by_feeder (λ f i. (w : Worker) → number_at (ends w) s ≡ Some f → Brings t w i.route.0 s) all
      (λ f. all_forall (λ (w : Worker) (i : Item). number_at (ends w) s ≡ Some f → Brings t w i.route.0 s) (items_by f all)
      (λ w. all_given (number_at (ends w) s ≡ Some f) (λ (i : Item). Brings t w i.route.0 s) (items_by f all) (before_at s f w))) in
      all_weaker (λ (x : Tagged). ((w : Worker) × (number_at (ends w) s ≡ Some x.feeder)) × ((w : Worker) → number_at (ends w) s ≡ Some x.feeder → Brings t w x.item.route.0 s)) (IsKnown s)
      (λ x p. (p.0.0, p.0.1, p.1 p.0.0 p.0.1)) all
      (all_both (λ (x : Tagged). (w : Worker) × (number_at (ends w) s ≡ Some x.feeder)) (λ (x : Tagged). (w : Worker) → number_at (ends w) s ≡ Some x.feeder → Brings t w x.item.route.0 s) all (j.lanes s).by each)

  known_taken : (s : Station) → AllByRecursion (IsKnown s) (accounts s).taken
  known_taken s = all_front (IsKnown s) (accounts s).taken (accounts s).left (known s)

  known_left : (s : Station) → AllByRecursion (IsKnown s) (accounts s).left
  known_left s = all_end (IsKnown s) (accounts s).taken (accounts s).left (known s)

  -- a thing of r at s was put there by the worker before s
  feeder_is : (r : ℕ) (w : Worker) (s : Station) → IsWay t r → Brings t w r s → (x : Tagged) → IsKnown s x → eqb x.item.route.0 r ≡ true → number_at (ends w) s ≡ Some x.feeder
  feeder_is r w s is_way before x p e =
      let same : p.0 ≡ w = before_one t r s is_way.once p.0 w (subst (λ (n : ℕ). Brings t p.0 n s) (same_route x.item r e) p.2) before in
      subst (λ (v : Worker). number_at (ends v) s ≡ Some x.feeder) same p.1

  one_feeder : (r : ℕ) (w : Worker) (s : Station) → IsWay t r → Brings t w r s → (n : ℕ) → number_at (ends w) s ≡ Some n → (xs : List Tagged) → AllByRecursion (IsKnown s) xs
      → of_route r (items_by n xs) ≡ of_route r (items_of xs)
  one_feeder r w s is_way before n mine xs h =
      filter_within (λ (i : Item). eqb i.route.0 r) (λ (x : Tagged). x.item) (λ (x : Tagged). eqb x.feeder n) xs
      (all_weaker (IsKnown s) (λ (x : Tagged). eqb x.item.route.0 r ≡ true → eqb x.feeder n ≡ true)
      (λ x p e. eq-eqb x.feeder n (same_Some x.feeder n (sym (feeder_is r w s is_way before x p e) ∙ mine))) xs h)

  no_feeder : (r : ℕ) (w : Worker) (s : Station) → IsWay t r → Brings t w r s → number_at (ends w) s ≡ None → (xs : List Tagged) → AllByRecursion (IsKnown s) xs → of_route r (items_of xs) ≡ []
  no_feeder r w s is_way before mine xs h =
      filter_none (λ (i : Item). eqb i.route.0 r) (items_of xs)
      (all_map (λ (i : Item). eqb i.route.0 r ≡ true → ⊥) (λ (x : Tagged). x.item) xs
      (all_weaker (IsKnown s) (λ (x : Tagged). eqb x.item.route.0 r ≡ true → ⊥) (λ x p e. none-some x.feeder (sym mine ∙ feeder_is r w s is_way before x p e)) xs h))

  -- what the worker before s put there for r: what was taken of r, then what is left of r
  through : (r : ℕ) (w : Worker) (s : Station) → IsWay t r → Brings t w r s → of_route r (put_at (ends w) s) ≡ of_route r (taken_by (ends (taker s))) ++ of_route r (b.rest s)
  through r w s is_way before =
      let tap : of_route r (items_of (accounts s).taken) ≡ of_route r (taken_by (ends (taker s))) = ap (of_route r) (j.lanes s).tapped in
      let rest : of_route r (b.rest s) ≡ of_route r (items_of (accounts s).left) = ap (of_route r) (j.rests s) in
      elim (cases_number (number_at (ends w) s)) [
        | inl none ↦ (
            let e = ap (of_route r) (put_none (feed_at (ends w).feeds s) none) in
            let g = no_feeder r w s is_way before none (accounts s).taken (known_taken s) in
            let h = no_feeder r w s is_way before none (accounts s).left (known_left s) in
            cc)
        | inr some ↦ (
            let e = ap (of_route r) ((j.lanes s).fed w some.0 some.1) in
            let f = filter-append (λ (i : Item). eqb i.route.0 r) (items_by some.0 (accounts s).taken) (items_by some.0 (accounts s).left) in
            let g = one_feeder r w s is_way before some.0 some.1 (accounts s).taken (known_taken s) in
            let h = one_feeder r w s is_way before some.0 some.1 (accounts s).left (known_left s) in
            cc)
      ]

  -- what the worker before s put there for r and what it has pending of r: what it was given of r
  carried : (r : ℕ) (w : Worker) (s : Station) → Brings t w r s → of_route r (put_at (ends w) s) ++ of_route r (pending b w) ≡ of_route r (given ends b w)
  carried r w s before =
      let put = (j.went w).put in
      let e = ap (of_route r) ((j.went w).each s) in
      let g = route_bound t r w s before.0 put in
      let f = filter-append (λ (i : Item). eqb i.route.0 r) put (pending b w) in
      let h = ap (of_route r) (j.went w).whole in
      cc

  abbrev stand : ℕ → Station → List Item
  stand r s = of_route r (standing b s)

  walk : (r : ℕ) → IsWay t r → (hs : List Hop) (w : Worker) → Brings t w r (head t r hs) → ((a : Station) → Among a (way t r hs) → station_behind a (t.stations r) ≡ station_behind a (way t r hs)) → Once (way t r hs)
      → of_route r (put_at (ends w) (head t r hs)) ≡ came t b r ++ flat_map (stand r) (reverse (way t r hs))
  unfolding way head
  walk r is_way [] w before same once =
      let f = t.finish r in
      let e = through r w (place f) is_way before in
      let q : of_route r (taken_by (ends (taker (place f)))) ≡ of_route r (taken_by (ends f)) = ap (λ (v : Worker). of_route r (taken_by (ends v))) (place_taker f) in
      let g = ap (of_route r) (j.came f is_way.to) in
      let k = filter-append (λ (i : Item). eqb i.route.0 r) (b.arrived f) (b.kept f) in
      let at = filter-append (λ (i : Item). eqb i.route.0 r) (b.kept (taker (place f))) (b.rest (place f)) in
      let p = place_taker f in
      let a = append_assoc (of_route r (b.arrived f)) (of_route r (b.kept f)) (of_route r (b.rest (place f))) in
      let n = append-nil (stand r (place f)) in
      cc
  walk r is_way (h ∷ hs) w before same once =
      let mine : next t (Forwarder h) r ≡ Some (head t r hs) = same (Line h) (inl refl) ∙ (after_itself (Line h) (way t r hs) ∙ first_way t r hs) in
      let next_before : Brings t (Forwarder h) r (head t r hs) = (mine, λ n. absurd n) in
      let later = walk r is_way hs (Forwarder h) next_before (λ a m. same a (inr m) ∙ after_rest a (Line h) (way t r hs) m once.0) once.1 in
      let e = through r w (Line h) is_way before in
      let g = carried r (Forwarder h) (head t r hs) next_before in
      let at = filter-append (λ (i : Item). eqb i.route.0 r) (b.kept (Forwarder h)) (b.rest (Line h)) in
      let d = back_from (stand r) (Line h) (way t r hs) in
      let a = regroup (came t b r) (flat_map (stand r) (reverse (way t r hs))) (of_route r (b.kept (Forwarder h))) (of_route r (b.rest (Line h))) in
      cc

  in_order : (r : ℕ) → Leads t r → outs t b r ≡ came t b r ++ left t b r
  in_order r some =
      let is_way : IsWay t r = ok r some in
      let w = t.start r in
      let are : t.stations r ≡ way t r is_way.lines = ways r is_way in
      let goes : next t w r ≡ Some (head t r is_way.lines) = next_agent t r w is_way.from ∙ (ap first are ∙ first_way t r is_way.lines) in
      let before : Brings t w r (head t r is_way.lines) = (goes, λ a. refl) in
      let e = walk r is_way is_way.lines w before (λ a m. ap (station_behind a) are) (subst Once are is_way.once) in
      let g = carried r w (head t r is_way.lines) before in
      let p = pending_agent b w is_way.from in
      let s = given_agent ends b w is_way.from in
      let d = append_assoc (came t b r) (flat_map (stand r) (reverse (t.stations r))) (of_route r (b.outgoing w)) in
      cc

  -- each item taken at a station, or left there, is on a route through it
  all_among : (s : Station) (xs : List Tagged) → AllByRecursion (IsKnown s) xs → AllByRecursion (λ (i : Item). Among s (t.stations i.route.0)) (items_of xs)
  all_among s xs h =
      all_map (λ (i : Item). Among s (t.stations i.route.0)) (λ (x : Tagged). x.item) xs
      (all_weaker (IsKnown s) (λ (x : Tagged). Among s (t.stations x.item.route.0)) (λ x p. next_among t x.item.route.0 p.0 s p.2.0) xs h)

  taken_among : (s : Station) → AllByRecursion (λ (i : Item). Among s (t.stations i.route.0)) (taken_by (ends (taker s)))
  taken_among s = subst (AllByRecursion (λ (i : Item). Among s (t.stations i.route.0))) (j.lanes s).tapped (all_among s (accounts s).taken (known_taken s))

  rest_among : (s : Station) → AllByRecursion (λ (i : Item). Among s (t.stations i.route.0)) (b.rest s)
  rest_among s = subst (AllByRecursion (λ (i : Item). Among s (t.stations i.route.0))) (sym (j.rests s)) (all_among s (accounts s).left (known_left s))

  let_in_among : (w : Worker) → IsAgent w → AllByRecursion (λ (i : Item). Among (place w) (t.stations i.route.0)) (b.arrived w ++ b.kept w)
  let_in_among w a =
      subst (AllByRecursion (λ (i : Item). Among (place w) (t.stations i.route.0))) (ap (λ (v : Worker). taken_by (ends v)) (place_taker w) ∙ sym (j.came w a)) (taken_among (place w))

  kept_among : (s : Station) → AllByRecursion (λ (i : Item). Among s (t.stations i.route.0)) (b.kept (taker s))
  kept_among (Line h) =
      all_end (λ (i : Item). Among (Line h) (t.stations i.route.0)) (j.went (Forwarder h)).put (b.kept (Forwarder h))
      (subst (AllByRecursion (λ (i : Item). Among (Line h) (t.stations i.route.0))) (sym (j.went (Forwarder h)).whole) (taken_among (Line h)))
  kept_among (Inlet n) = all_end (λ (i : Item). Among (Inlet n) (t.stations i.route.0)) (b.arrived (Block n)) (b.kept (Block n)) (let_in_among (Block n) tt)
  kept_among Outlet = all_end (λ (i : Item). Among Outlet (t.stations i.route.0)) (b.arrived Environment) (b.kept Environment) (let_in_among Environment tt)

  leaving : (w : Worker) → IsAgent w → AllByRecursion (λ (i : Item). t.start i.route.0 ≡ w) (b.outgoing w)
  leaving w a =
      all_weaker (λ (i : Item). IsAgent w → t.start i.route.0 ≡ w) (λ (i : Item). t.start i.route.0 ≡ w) (λ i f. f a) (b.outgoing w)
      (subst (AllByRecursion (λ (i : Item). IsAgent w → t.start i.route.0 ≡ w)) (pending_agent b w a) (all_end (λ (i : Item). IsAgent w → t.start i.route.0 ≡ w) (j.went w).put (pending b w) (starts_put w)))

pub keeps_order : (t : Ways) (ends : Worker → WorkerEnds) (accounts : Station → Account) (b : Books) → AreWays t → Joined t ends accounts b → InOrder t b
keeps_order t ends accounts b ok j =
    record {
      in_order = in_order t ends accounts b ok j;
      in_place = λ s. all_append (λ (i : Item). Among s (t.stations i.route.0)) (b.kept (taker s)) (b.rest s) (kept_among t ends accounts b ok j s) (rest_among t ends accounts b ok j s);
      let_in = λ w a. all_front (λ (i : Item). Among (place w) (t.stations i.route.0)) (b.arrived w) (b.kept w) (let_in_among t ends accounts b ok j w a);
      leaving = leaving t ends accounts b ok j;
    }
