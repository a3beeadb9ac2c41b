-- The order along each route outlasts each serial step.
use Rattle.std.proofs.Common.{ℕ, true, eqb, List, [], ◌∷◌, ◌++◌, reverse, ◌≡◌, ◌≢◌, Some, refl, inl, inr, ap, sym, ◌∙◌, subst}
use Rattle.std.proofs.lemmas.Bool.{cond-false, cases_Bool}
use Rattle.std.proofs.lemmas.List.{append_assoc, append-nil}
use Rattle.std.proofs.lemmas.List.Elements.{filter-append}
use Rattle.std.proofs.lemmas.Option.{same_Some}
use Rattle.std.specs.List.{flat_map, AllByRecursion}
use Rattle.sdl_routes.specs.declared.route.Hop.{Hop}
use Rattle.sdl_signal.specs.declared.values.Item.{Item}
use Rattle.sdl_routes.specs.declared.route.Station.{Station}
use Rattle.sdl_routes.specs.declared.route.Station.TheVariants.{Line}
use Rattle.sdl_forward_opening.specs.declared.worker.Worker.{Worker}
use Rattle.sdl_forward_opening.specs.declared.worker.Worker.TheVariants.{Forwarder}
use Rattle.sdl_run_outcome.specs.Stations.{Ways, IsAgent, Leads, AreWays, IsWay, Among, Once, first, next, place, taker}
use Rattle.sdl_forward.specs.Forwards.{station_behind}
use Rattle.sdl_run_outcome.specs.Books.{Books, InOrder, of_route, outs, came, left, standing}
use Rattle.sdl_run_outcome.specs.Steps.{bound_for, IsStill, BringsOn, Acts, Steps}
use Rattle.sdl_block_hand.specs.Work.{is_station}
use Rattle.sdl_run_outcome.proofs.Comparisons.{cases_station, cases_worker}
use Rattle.sdl_run_outcome.proofs.Lists.{all_front, all_end, all_append, all_weaker, all_passes, filter_none}
use Rattle.sdl_run_outcome.proofs.AlongStations.{next_among, first_among, after_any, after_skip, after_itself, next_agent, line_not_place, place_taker}
use Rattle.sdl_run_outcome.proofs.Along.{way, ways, head, first_way, back_from, route_bound, same_route, is_station_is}

flat_same : (f g : Station → List Item) (ss : List Station) → ((s : Station) → Among s ss → g s ≡ f s) → flat_map g (reverse ss) ≡ flat_map f (reverse ss)
flat_same f g [] h = refl
flat_same f g (x ∷ xs) h =
    let a = back_from f x xs in
    let b = back_from g x xs in
    let c = flat_same f g xs (λ s m. h s (inr m)) in
    let d = h x (inl refl) in
    cc

across : {A : Type 0} (c f k l : List A) → (c ++ (f ++ k)) ++ l ≡ (c ++ f) ++ (k ++ l)
across c f k l = simp append_assoc

-- xs goes from the front of a to the back of the next station
module _ (f g : Station → List Item) (a z : Station) (xs : List Item) (from : f a ≡ xs ++ g a) (to : g z ≡ f z ++ xs) (others : (s : Station) → s ≢ a → s ≢ z → g s ≡ f s) where
  slide_here : (ys : List Station) → first ys ≡ Some z → (Among a ys → ⊥) → Once ys → flat_map g (reverse (a ∷ ys)) ≡ flat_map f (reverse (a ∷ ys))
  slide_here [] e free o = absurd (first_among [] z e)
  slide_here (y ∷ zs) e free o =
      let y_is : y ≡ z = same_Some y z e in
      let rest = flat_same f g zs (λ s m. others s (λ p. free (inr (subst (λ (u : Station). Among u zs) p m))) (λ p. o.0 (subst (λ (u : Station). Among u zs) (p ∙ sym y_is) m))) in
      let e1 = back_from g a (y ∷ zs) in
      let e2 = back_from f a (y ∷ zs) in
      let e3 = back_from g y zs in
      let e4 = back_from f y zs in
      let e5 = across (flat_map f (reverse zs)) (f z) xs (g a) in
      cc

  slide : (ss : List Station) → Once ss → station_behind a ss ≡ Some z → flat_map g (reverse ss) ≡ flat_map f (reverse ss)
  slide [] o e = absurd (first_among [] z e)
  slide (x ∷ ys) o e = elim (cases_station x a) [
    | inl p ↦ subst (λ (u : Station). flat_map g (reverse (u ∷ ys)) ≡ flat_map f (reverse (u ∷ ys))) (sym p)
        (slide_here ys (sym (after_itself a ys) ∙ subst (λ (u : Station). station_behind a (u ∷ ys) ≡ Some z) p e) (subst (λ (u : Station). Among u ys → ⊥) p o.0) o.1)
    | inr n ↦ (
        let e1 = back_from g x ys in
        let e2 = back_from f x ys in
        let follows : station_behind a ys ≡ Some z = sym (after_skip a x ys n) ∙ e in
        let e3 = others x n (λ p. o.0 (subst (λ (u : Station). Among u ys) (sym p) (after_any a ys z follows))) in
        let e4 = slide ys o.1 follows in
        cc)
  ]

-- a route that passes some station is a route
passes_route : (t : Ways) (r : ℕ) (s : Station) → Among s (t.stations r) → Leads t r
passes_route t r s m e = subst (λ (ss : List Station). Among s ss) e m

module _ (t : Ways) (h : Hop) (b c : Books) (ok : AreWays t) (o : InOrder t b) (step : BringsOn t h b c) where
  forwards_order : (r : ℕ) → Leads t r → outs t c r ≡ came t c r ++ left t c r
  forwards_order r some =
      let is_way : IsWay t r = ok r some in
      let of = λ (i : Item). eqb i.route.0 r in
      let f = λ (s : Station). of_route r (standing b s) in
      let g = λ (s : Station). of_route r (standing c s) in
      let xs = of_route r (step.item ∷ []) in
      let from : f (Line h) ≡ xs ++ g (Line h) = ap (of_route r) step.takes ∙ filter-append of (step.item ∷ []) (standing c (Line h)) in
      let to : g step.to ≡ f step.to ++ xs = ap (of_route r) step.puts ∙ filter-append of (standing b step.to) (step.item ∷ []) in
      let others = λ (s : Station) (n : s ≢ Line h) (m : s ≢ step.to). ap (of_route r) (step.others s n m) in
      let same : flat_map g (reverse (t.stations r)) ≡ flat_map f (reverse (t.stations r)) = elim (cases_Bool (of step.item)) [
        | inl e ↦ slide f g (Line h) step.to xs from to others (t.stations r) is_way.once
            (subst (λ (n : ℕ). station_behind (Line h) (t.stations n) ≡ Some step.to) (same_route step.item r e) step.goes)
        | inr e ↦ (
            let none : xs ≡ [] = cond-false (of step.item) (step.item ∷ []) [] e in
            flat_same f g (t.stations r) (λ s m. elim (cases_station s (Line h)) [
              | inl p ↦ subst (λ (u : Station). g u ≡ f u) (sym p) (cc)
              | inr n ↦ elim (cases_station s step.to) [
                | inl q ↦ subst (λ (u : Station). g u ≡ f u) (sym q) (to ∙ (ap (λ (ys : List Item). f step.to ++ ys) none ∙ append-nil (f step.to)))
                | inr k ↦ others s n k
              ]
            ]))
      ] in
      let e = o.in_order r some in
      let sent = (step.agents (t.start r) is_way.from).sent in
      let outgoing = (step.agents (t.start r) is_way.from).outgoing in
      let arrived = (step.agents (t.finish r) is_way.to).arrived in
      cc

  forwards_place : (s : Station) → AllByRecursion (λ (i : Item). Among s (t.stations i.route.0)) (standing c s)
  forwards_place s = elim (cases_station s (Line h)) [
    | inl p ↦ subst (λ (u : Station). AllByRecursion (λ (i : Item). Among u (t.stations i.route.0)) (standing c u)) (sym p)
        (subst (AllByRecursion (λ (i : Item). Among (Line h) (t.stations i.route.0))) step.takes (o.in_place (Line h))).1
    | inr n ↦ elim (cases_station s step.to) [
      | inl q ↦ subst (λ (u : Station). AllByRecursion (λ (i : Item). Among u (t.stations i.route.0)) (standing c u)) (sym q)
          (subst (AllByRecursion (λ (i : Item). Among step.to (t.stations i.route.0))) (sym step.puts)
          (all_append (λ (i : Item). Among step.to (t.stations i.route.0)) (standing b step.to) (step.item ∷ []) (o.in_place step.to)
          (next_among t step.item.route.0 (Forwarder h) step.to step.goes, tt)))
      | inr k ↦ subst (AllByRecursion (λ (i : Item). Among s (t.stations i.route.0))) (sym (step.others s n k)) (o.in_place s)
    ]
  ]

pub forwards_keeps : (t : Ways) (h : Hop) (b c : Books) → AreWays t → InOrder t b → BringsOn t h b c → InOrder t c
forwards_keeps t h b c ok o step = record {
  in_order = forwards_order t h b c ok o step;
  in_place = forwards_place t h b c ok o step;
  let_in = λ w a. subst (AllByRecursion (λ (i : Item). Among (place w) (t.stations i.route.0))) (sym (step.agents w a).arrived) (o.let_in w a);
  leaving = λ w a. subst (AllByRecursion (λ (i : Item). t.start i.route.0 ≡ w)) (sym (step.agents w a).outgoing) (o.leaving w a);
}

outward : {A : Type 0} (c f k l : List A) → (c ++ f) ++ (k ++ l) ≡ (c ++ (f ++ k)) ++ l
outward c f k l = simp append_assoc

behind : Ways → ℕ → List Hop → List Station
behind t r [] = []
behind t r (h ∷ hs) = way t r hs

behind_among : (t : Ways) (r : ℕ) (hs : List Hop) (s : Station) → Among s (behind t r hs) → Among s (way t r hs)
unfolding behind way
behind_among t r [] s m = absurd m
behind_among t r (h ∷ hs) s m = inr m

head_among : (t : Ways) (r : ℕ) (hs : List Hop) → Among (head t r hs) (way t r hs)
unfolding head way
head_among t r [] = inl refl
head_among t r (h ∷ hs) = inl refl

head_free : (t : Ways) (r : ℕ) (hs : List Hop) → Once (way t r hs) → (s : Station) → Among s (behind t r hs) → head t r hs ≢ s
unfolding behind way head
head_free t r [] o s m e = m
head_free t r (h ∷ hs) o s m e = o.0 (subst (λ (u : Station). Among u (way t r hs)) (sym e) m)

-- more comes to the first station of a route alone, and at its end what arrives is what stood first there
module _ (t : Ways) (r : ℕ) (f g more : Station → List Item) (a c : List Item)
    (lines : (h : Hop) → g (Line h) ≡ f (Line h) ++ more (Line h)) (end : c ++ g (place (t.finish r)) ≡ (a ++ f (place (t.finish r))) ++ more (place (t.finish r))) where
  grow : (hs : List Hop) → ((s : Station) → Among s (behind t r hs) → more s ≡ []) → c ++ flat_map g (reverse (way t r hs)) ≡ (a ++ flat_map f (reverse (way t r hs))) ++ more (head t r hs)
  unfolding way head behind
  grow [] none =
      let e1 = append-nil (g (place (t.finish r))) in
      let e2 = append-nil (f (place (t.finish r))) in
      cc
  grow (h ∷ hs) none =
      let e1 = back_from g (Line h) (way t r hs) in
      let e2 = back_from f (Line h) (way t r hs) in
      let e3 = grow hs (λ s m. none s (behind_among t r hs s m)) in
      let e4 = none (head t r hs) (head_among t r hs) in
      let e5 = append-nil (a ++ flat_map f (reverse (way t r hs))) in
      let e6 = lines h in
      let e7 = append_assoc c (flat_map g (reverse (way t r hs))) (g (Line h)) in
      let e8 = outward a (flat_map f (reverse (way t r hs))) (f (Line h)) (more (Line h)) in
      cc

module _ (t : Ways) (w : Worker) (b c : Books) (ok : AreWays t) (o : InOrder t b) (step : Acts t w b c) where
  abbrev more : ℕ → Station → List Item
  more r s = of_route r (bound_for t w s step.put)

  -- what was put starts at w
  put_starts : AllByRecursion (λ (i : Item). t.start i.route.0 ≡ w) step.put
  put_starts = all_front (λ (i : Item). t.start i.route.0 ≡ w) step.put (c.outgoing w)
      (subst (AllByRecursion (λ (i : Item). t.start i.route.0 ≡ w)) (sym step.hand) (all_append (λ (i : Item). t.start i.route.0 ≡ w) (b.outgoing w) step.new (o.leaving w step.agent) step.starts))

  bound_next : (s : Station) → AllByRecursion (λ (i : Item). next t w i.route.0 ≡ Some s) (bound_for t w s step.put)
  bound_next s = all_weaker (λ (i : Item). is_station s (next t w i.route.0) ≡ true) (λ (i : Item). next t w i.route.0 ≡ Some s) (λ i e. is_station_is s (next t w i.route.0) e) (bound_for t w s step.put)
      (all_passes (λ (i : Item). is_station s (next t w i.route.0)) step.put)

  bound_among : (s : Station) → AllByRecursion (λ (i : Item). Among s (t.stations i.route.0)) (bound_for t w s step.put)
  bound_among s = all_weaker (λ (i : Item). next t w i.route.0 ≡ Some s) (λ (i : Item). Among s (t.stations i.route.0)) (λ i e. next_among t i.route.0 w s e) (bound_for t w s step.put) (bound_next s)

  more_none : (r : ℕ) (x s : Station) → next t w r ≡ Some x → x ≢ s → more r s ≡ []
  more_none r x s n apart = filter_none (λ (i : Item). eqb i.route.0 r) (bound_for t w s step.put)
      (all_weaker (λ (i : Item). next t w i.route.0 ≡ Some s) (λ (i : Item). eqb i.route.0 r ≡ true → ⊥)
      (λ i e p. apart (same_Some x s (sym n ∙ (ap (next t w) (sym (same_route i r p)) ∙ e)))) (bound_for t w s step.put) (bound_next s))

  acts_line : (r : ℕ) (s : Station) → s ≢ place w → of_route r (standing c s) ≡ of_route r (standing b s) ++ more r s
  acts_line r s n = ap (of_route r) (step.others s n) ∙ filter-append (λ (i : Item). eqb i.route.0 r) (standing b s) (bound_for t w s step.put)

  place_apart : (v : Worker) → v ≢ w → place v ≢ place w
  place_apart v n e = n (sym (place_taker v) ∙ (ap taker e ∙ place_taker w))

  acts_end : (r : ℕ) → IsAgent (t.finish r) → came t c r ++ of_route r (standing c (place (t.finish r))) ≡ (came t b r ++ of_route r (standing b (place (t.finish r)))) ++ more r (place (t.finish r))
  acts_end r a = elim (cases_worker (t.finish r) w) [
    | inl p ↦ (
        let of = λ (i : Item). eqb i.route.0 r in
        let e = ap (of_route r) step.lets_in in
        let e1 = filter-append of (c.arrived w) (standing c (place w)) in
        let e2 = filter-append of (b.arrived w ++ standing b (place w)) (bound_for t w (place w) step.put) in
        let e3 = filter-append of (b.arrived w) (standing b (place w)) in
        let here : of_route r (c.arrived w) ++ of_route r (standing c (place w)) ≡ (of_route r (b.arrived w) ++ of_route r (standing b (place w))) ++ more r (place w) = cc in
        subst (λ (v : Worker). of_route r (c.arrived v) ++ of_route r (standing c (place v)) ≡ (of_route r (b.arrived v) ++ of_route r (standing b (place v))) ++ more r (place v)) (sym p) here)
    | inr n ↦ (
        let e = acts_line r (place (t.finish r)) (place_apart (t.finish r) n) in
        let quiet = (step.agents (t.finish r) a n).arrived in
        let e1 = append_assoc (came t b r) (of_route r (standing b (place (t.finish r)))) (more r (place (t.finish r))) in
        cc)
  ]

  acts_order : (r : ℕ) → Leads t r → outs t c r ≡ came t c r ++ left t c r
  acts_order r some =
      let is_way : IsWay t r = ok r some in
      let hs = is_way.lines in
      let f = λ (s : Station). of_route r (standing b s) in
      let g = λ (s : Station). of_route r (standing c s) in
      let are : t.stations r ≡ way t r hs = ways r is_way in
      let goes : next t w r ≡ Some (head t r hs) = next_agent t r w step.agent ∙ (ap first are ∙ first_way t r hs) in
      let e = grow t r f g (more r) (came t b r) (came t c r) (λ h. acts_line r (Line h) (λ p. line_not_place w step.agent h (sym p))) (acts_end r is_way.to) hs
      (λ s m. more_none r (head t r hs) s goes (head_free t r hs (subst Once are is_way.once) s m)) in
      let e1 = route_bound t r w (head t r hs) goes step.put in
      let e2 = append_assoc (came t c r) (flat_map g (reverse (t.stations r))) (of_route r (c.outgoing (t.start r))) in
      let before = o.in_order r some in
      elim (cases_worker (t.start r) w) [
        | inl p ↦ (
            let of = λ (i : Item). eqb i.route.0 r in
            let e3 = ap (of_route r) step.sends ∙ filter-append of (b.sent w) step.new in
            let e4 = sym (filter-append of step.put (c.outgoing w)) ∙ (ap (of_route r) step.hand ∙ filter-append of (b.outgoing w) step.new) in
            let e5 = across (came t b r) (flat_map f (reverse (t.stations r))) (of_route r (b.outgoing w)) (of_route r step.new) in
            let e6 = append_assoc (came t b r ++ flat_map f (reverse (t.stations r))) (of_route r step.put) (of_route r (c.outgoing w)) in
            cc)
        | inr n ↦ (
            let quiet = step.agents (t.start r) is_way.from n in
            let e3 = quiet.sent in
            let e4 = quiet.outgoing in
            let e5 = filter_none (λ (i : Item). eqb i.route.0 r) step.put
            (all_weaker (λ (i : Item). t.start i.route.0 ≡ w) (λ (i : Item). eqb i.route.0 r ≡ true → ⊥) (λ i q m. n (ap t.start (sym (same_route i r m)) ∙ q)) step.put put_starts) in
            let e6 = append-nil (came t b r ++ flat_map f (reverse (t.stations r))) in
            let e7 = append_assoc (came t b r) (flat_map f (reverse (t.stations r))) (of_route r (b.outgoing (t.start r))) in
            cc)
      ]

  acts_home : AllByRecursion (λ (i : Item). Among (place w) (t.stations i.route.0)) (c.arrived w ++ standing c (place w))
  acts_home = subst (AllByRecursion (λ (i : Item). Among (place w) (t.stations i.route.0))) (sym step.lets_in)
      (all_append (λ (i : Item). Among (place w) (t.stations i.route.0)) (b.arrived w ++ standing b (place w)) (bound_for t w (place w) step.put)
      (all_append (λ (i : Item). Among (place w) (t.stations i.route.0)) (b.arrived w) (standing b (place w)) (o.let_in w step.agent) (o.in_place (place w))) (bound_among (place w)))

  acts_place : (s : Station) → AllByRecursion (λ (i : Item). Among s (t.stations i.route.0)) (standing c s)
  acts_place s = elim (cases_station s (place w)) [
    | inl p ↦ subst (λ (u : Station). AllByRecursion (λ (i : Item). Among u (t.stations i.route.0)) (standing c u)) (sym p)
        (all_end (λ (i : Item). Among (place w) (t.stations i.route.0)) (c.arrived w) (standing c (place w)) acts_home)
    | inr n ↦ subst (AllByRecursion (λ (i : Item). Among s (t.stations i.route.0))) (sym (step.others s n))
        (all_append (λ (i : Item). Among s (t.stations i.route.0)) (standing b s) (bound_for t w s step.put) (o.in_place s) (bound_among s))
  ]

  acts_in : (v : Worker) → IsAgent v → AllByRecursion (λ (i : Item). Among (place v) (t.stations i.route.0)) (c.arrived v)
  acts_in v a = elim (cases_worker v w) [
    | inl p ↦ subst (λ (u : Worker). AllByRecursion (λ (i : Item). Among (place u) (t.stations i.route.0)) (c.arrived u)) (sym p)
        (all_front (λ (i : Item). Among (place w) (t.stations i.route.0)) (c.arrived w) (standing c (place w)) acts_home)
    | inr n ↦ subst (AllByRecursion (λ (i : Item). Among (place v) (t.stations i.route.0))) (sym (step.agents v a n).arrived) (o.let_in v a)
  ]

  acts_leaving : (v : Worker) → IsAgent v → AllByRecursion (λ (i : Item). t.start i.route.0 ≡ v) (c.outgoing v)
  acts_leaving v a = elim (cases_worker v w) [
    | inl p ↦ subst (λ (u : Worker). AllByRecursion (λ (i : Item). t.start i.route.0 ≡ u) (c.outgoing u)) (sym p)
        (all_end (λ (i : Item). t.start i.route.0 ≡ w) step.put (c.outgoing w)
        (subst (AllByRecursion (λ (i : Item). t.start i.route.0 ≡ w)) (sym step.hand) (all_append (λ (i : Item). t.start i.route.0 ≡ w) (b.outgoing w) step.new (o.leaving w step.agent) step.starts)))
    | inr n ↦ subst (AllByRecursion (λ (i : Item). t.start i.route.0 ≡ v)) (sym (step.agents v a n).outgoing) (o.leaving v a)
  ]

pub acts_keeps : (t : Ways) (w : Worker) (b c : Books) → AreWays t → InOrder t b → Acts t w b c → InOrder t c
acts_keeps t w b c ok o step = record {
  in_order = acts_order t w b c ok o step;
  in_place = acts_place t w b c ok o step;
  let_in = acts_in t w b c ok o step;
  leaving = acts_leaving t w b c ok o step;
}

pub still_keeps : (t : Ways) (b c : Books) → AreWays t → InOrder t b → IsStill b c → InOrder t c
still_keeps t b c ok o step = record {
  in_order = λ r some.
      let is_way : IsWay t r = ok r some in
      let f = λ (s : Station). of_route r (standing b s) in
      let g = λ (s : Station). of_route r (standing c s) in
      let same : flat_map g (reverse (t.stations r)) ≡ flat_map f (reverse (t.stations r)) = flat_same f g (t.stations r) (λ s m. ap (of_route r) (step.stations s)) in
      let e = o.in_order r some in
      let sent = (step.agents (t.start r) is_way.from).sent in
      let outgoing = (step.agents (t.start r) is_way.from).outgoing in
      let arrived = (step.agents (t.finish r) is_way.to).arrived in
      cc;
  in_place = λ s. subst (AllByRecursion (λ (i : Item). Among s (t.stations i.route.0))) (sym (step.stations s)) (o.in_place s);
  let_in = λ w a. subst (AllByRecursion (λ (i : Item). Among (place w) (t.stations i.route.0))) (sym (step.agents w a).arrived) (o.let_in w a);
  leaving = λ w a. subst (AllByRecursion (λ (i : Item). t.start i.route.0 ≡ w)) (sym (step.agents w a).outgoing) (o.leaving w a);
}

pub steps_keep : (t : Ways) (b c : Books) → AreWays t → InOrder t b → Steps t b c → InOrder t c
steps_keep t b c ok o step = elim step [
  | inl s ↦ still_keeps t b c ok o s
  | inr m ↦ elim m [ inl f ↦ forwards_keeps t f.0 b c ok o f.1 | inr a ↦ acts_keeps t a.0 b c ok o a.1 ]
]
