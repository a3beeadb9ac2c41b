-- From rejoined queues to lanes between the workers.
use Rattle.std.proofs.Common.{ℕ, ◌<◌, true, List, [], ◌∷◌, ◌++◌, length, map, ◌≡◌, ◌≢◌, ◌⊎◌, Option, Some, None, option_map, refl, inl, inr, ap, sym, ◌∙◌, subst, arith}
use Rattle.std.proofs.lemmas.Bool.{cond_both, cond-true, cond-false, cases_Bool, false≢true}
use Rattle.std.proofs.lemmas.Option.{none-some, same_Some}
use Rattle.std.proofs.lemmas.List.{map-append}
use Rattle.std.specs.Option.{option_to_list}
use Rattle.std.specs.List.{AllByRecursion}
use Rattle.sdl_signal.specs.declared.values.Item.{Item}
use Rattle.sdl_routes.specs.declared.route.Station.{Station}
use Rattle.sdl_routes.specs.Routes.{EachOnce}
use Rattle.sdl_queue.specs.declared.rest.Rest.{Rest}
use Rattle.sdl_queue.specs.declared.rule.Tagged.{Tagged}
use Rattle.sdl_queue.specs.declared.rule.PutList.{PutList}
use Rattle.sdl_queue.specs.DelayLine.{items_by, HasNumber}
use Rattle.sdl_queue.specs.Ends.{Opening, OfQueue, OfRing, FeedEnd, TapEnd, Account, items_of, put_of}
use Rattle.sdl_queue.specs.Rest.{left_in, tags, IsRestOf}
use Rattle.sdl_forward_ends.specs.Stations.{same_station, stations_of}
use Rattle.sdl_forward.specs.Boards.{waiting, lists_of}
use Rattle.sdl_forward_opening.specs.declared.worker.Worker.{Worker}
use Rattle.sdl_forward_opening.specs.Workers.{Among, place, taker, same_worker}
use Rattle.sdl_forward_opening.specs.Opens.{AreOwnEnds, ends_of}
use Rattle.sdl_forward_opening.proofs.Bringing.{among_left, among_right, not_among}
use Rattle.sdl_run_outcome.proofs.Lists.{all_weaker}
use Rattle.sdl_run_outcome.proofs.Comparisons.{same_station_is, same_station_itself}
use Rattle.sdl_run_outcome.proofs.AlongStations.{place_taker}
use Rattle.sdl_run_outcome.proofs.Workers.{taker_place}
use Rattle.sdl_forward_ends.specs.Ends.{WorkerEnds, feed_at, put_at, number_at, taken_by, tap_at, column, taps, IsRejoinedAt, AreRejoined}
use Rattle.sdl_run_join.proofs.Places.{ends_behind, ends_here}
use Rattle.sdl_run_join.proofs.Kept.{all_unmap}
use Rattle.sdl_run_join.specs.Lanes.{IsLane, no_account, account_in, account_at}

-- the account of what was put together again, and what is left of it

rest_account : (o : Opening) (a : Account) (r : Rest) → IsRestOf o a r → account_in r ≡ a
rest_account (OfQueue o) a r is = ap account_in is
rest_account (OfRing o) a r (g, same, is) = ap account_in is ∙ sym same

items_tags : (xs : List Item) → items_of (tags xs) ≡ xs
items_tags [] = refl
items_tags (x ∷ xs) = ap (λ ys. x ∷ ys) (items_tags xs)

rest_left : (o : Opening) (a : Account) (r : Rest) → IsRestOf o a r → left_in r ≡ items_of (account_in r).left
rest_left (OfQueue o) a r is = subst (λ (x : Rest). left_in x ≡ items_of (account_in x).left) (sym is) refl
rest_left (OfRing o) a r (g, same, is) = subst (λ (x : Rest). left_in x ≡ items_of (account_in x).left) (sym is) (sym (items_tags g.left))

among_option : {X : Type 0} (o : Option X) (x : X) → o ≡ Some x → Among x (option_to_list o)
among_option None x e = absurd (none-some x e)
among_option (Some y) x e = inl (sym (same_Some y x e))

-- what holds of each member holds of one
all_member : {X : Type 0} (P : X → Type 0) (xs : List X) (x : X) → AllByRecursion P xs → Among x xs → P x
all_member P [] x h m = absurd m
all_member P (y ∷ ys) x h m = elim m [ inl e ↦ subst P (sym e) h.0 | inr n ↦ all_member P ys x h.1 n ]

number_split : (n : ℕ) (xs ys : List PutList) → HasNumber n (xs ++ ys) → HasNumber n xs ⊎ HasNumber n ys
number_split n [] ys h = inr h
number_split n (x ∷ xs) ys h = elim h [ inl e ↦ inl (inl e) | inr m ↦ elim (number_split n xs ys m) [ inl a ↦ inl (inr a) | inr b ↦ inr b ] ]

module _ (s : Station) where
  -- a worker's feed is in the column of its station
  in_column : (ws : List Worker) (all : List WorkerEnds) (w : Worker) (f : FeedEnd) → feed_at (ends_of ws all w).feeds s ≡ Some f → Among f (column s all)
  in_column [] all w f e = absurd (none-some f e)
  in_column (v ∷ vs) [] w f e = absurd (none-some f e)
  in_column (v ∷ vs) (x ∷ all) w f at =
      (cond_both (same_worker v w) x (ends_of vs all w) (λ (y : WorkerEnds). feed_at y.feeds s ≡ Some f → Among f (column s (x ∷ all)))
      (λ t e. among_left f (option_to_list (feed_at x.feeds s)) (column s all) (among_option (feed_at x.feeds s) f e))
      (λ t e. among_right f (option_to_list (feed_at x.feeds s)) (column s all) (in_column vs all w f e))) at

  here_number : (n : ℕ) (o : Option FeedEnd) → HasNumber n (map put_of (option_to_list o)) → option_map (λ (f : FeedEnd). f.number) o ≡ Some n
  here_number n None h = absurd h
  here_number n (Some f) h = elim h [ inl e ↦ ap Some e | inr m ↦ absurd m ]

  -- each number in the column is that of a worker's feed
  owner : (ws : List Worker) (all : List WorkerEnds) → EachOnce ws → length all ≡ length ws → (n : ℕ) → HasNumber n (map put_of (column s all))
      → (w : Worker) × Among w ws × (number_at (ends_of ws all w) s ≡ Some n)
  owner [] [] once same n h = absurd h
  owner [] (x ∷ all) once same n h = absurd (omega arith)
  owner (v ∷ vs) [] once same n h = absurd h
  owner (v ∷ vs) (x ∷ all) once same n h =
      elim (number_split n (map put_of (option_to_list (feed_at x.feeds s))) (map put_of (column s all)) (subst (HasNumber n) (map-append put_of (option_to_list (feed_at x.feeds s)) (column s all)) h)) [
        | inl a ↦ (v, inl refl, subst (λ (y : WorkerEnds). number_at y s ≡ Some n) (sym (ends_here v vs x all)) (here_number n (feed_at x.feeds s) a))
        | inr b ↦ (
            let later = owner vs all once.1 (omega arith) n b in
            let other : v ≢ later.0 = λ e. not_among v vs once.0 (subst (λ (u : Worker). Among u vs) (sym e) later.1) in
            (later.0, inr later.1, subst (λ (y : WorkerEnds). number_at y s ≡ Some n) (sym (ends_behind v vs x all later.0 other)) later.2))
      ]

  -- the tap of the station is some worker's
  tapper : (ws : List Worker) (all : List WorkerEnds) → EachOnce ws → length all ≡ length ws → (t : TapEnd) → Among t (taps s all)
      → (w : Worker) × Among w ws × (tap_at (ends_of ws all w).tap s ≡ Some t)
  tapper [] [] once same t h = absurd h
  tapper [] (x ∷ all) once same t h = absurd (omega arith)
  tapper (v ∷ vs) [] once same t h = absurd h
  tapper (v ∷ vs) (x ∷ all) once same t h =
      elim (split (option_to_list (tap_at x.tap s)) h) [
        | inl a ↦ (v, inl refl, subst (λ (y : WorkerEnds). tap_at y.tap s ≡ Some t) (sym (ends_here v vs x all)) (here (tap_at x.tap s) a))
        | inr b ↦ (
            let later = tapper vs all once.1 (omega arith) t b in
            let other : v ≢ later.0 = λ e. not_among v vs once.0 (subst (λ (u : Worker). Among u vs) (sym e) later.1) in
            (later.0, inr later.1, subst (λ (y : WorkerEnds). tap_at y.tap s ≡ Some t) (sym (ends_behind v vs x all later.0 other)) later.2))
      ]
    where
      split : (xs : List TapEnd) → Among t (xs ++ taps s all) → Among t xs ⊎ Among t (taps s all)
      split [] m = inr m
      split (y ∷ ys) m = elim m [ inl e ↦ inl (inl e) | inr n ↦ elim (split ys n) [ inl a ↦ inl (inr a) | inr b ↦ inr b ] ]

      here : (o : Option TapEnd) → Among t (option_to_list o) → o ≡ Some t
      here None m = absurd m
      here (Some y) m = elim m [ inl e ↦ ap Some (sym e) | inr n ↦ absurd n ]

  -- a tap at the station
  tap_is : (o : Option (Station × TapEnd)) (t : TapEnd) → tap_at o s ≡ Some t → (x : Station × TapEnd) × (o ≡ Some x) × (x.0 ≡ s) × (x.1 ≡ t)
  tap_is None t e = absurd (none-some t e)
  tap_is (Some x) t at = (cond_both (same_station x.0 s) (Some x.1) None (λ (o : Option TapEnd). o ≡ Some t → (y : Station × TapEnd) × (Some x ≡ Some y) × (y.0 ≡ s) × (y.1 ≡ t))
      (λ p e. (x, refl, same_station_is x.0 s p, same_Some x.1 t e)) (λ p e. absurd (none-some t e))) at

  taken_is : (e : WorkerEnds) (x : Station × TapEnd) → e.tap ≡ Some x → taken_by e ≡ items_of x.1.taken
  taken_is e x at = ap (λ (o : Option (Station × TapEnd)). elim o as (λ _. List Item) [ None ↦ [] | Some t ↦ items_of t.1.taken ]) at

  -- what a feed put
  put_is : (e : WorkerEnds) (f : FeedEnd) → feed_at e.feeds s ≡ Some f → put_at e s ≡ f.put
  put_is e f at = ap (λ (o : Option FeedEnd). elim o as (λ _. List Item) [ None ↦ [] | Some g ↦ g.put ]) at

  some_feed : (o : Option FeedEnd) (n : ℕ) → option_map (λ (f : FeedEnd). f.number) o ≡ Some n → (f : FeedEnd) × (o ≡ Some f) × (f.number ≡ n)
  some_feed None n e = absurd (none-some n e)
  some_feed (Some f) n e = (f, refl, same_Some f.number n e)

  -- the lane of a rejoined queue
  module _ (ws : List Worker) (all : List WorkerEnds) (stations : List Station) (once : EachOnce ws) (same : length all ≡ length ws) (own : (w : Worker) → AreOwnEnds stations w (ends_of ws all w)) where
    lane : (rest : Rest) → IsRejoinedAt all s rest → IsLane (ends_of ws all) s (account_in rest)
    lane rest (t, tap, (a, is, feeders, puts, taken, (numbered, covers, each))) =
        let found = tapper ws all once same t (subst (Among t) (sym tap) (inl refl)) in
        let x = tap_is (ends_of ws all found.0).tap t found.2 in
        let mine : place found.0 ≡ s = sym ((own found.0).tap x.0 x.1).0 ∙ x.2 in
        let w_is : found.0 ≡ taker s = sym (place_taker found.0) ∙ ap taker mine in
        subst (λ (x : Account). IsLane (ends_of ws all) s x) (sym (rest_account t.opening a rest is))
        (record {
          tapped = ap items_of taken ∙ (ap (λ (y : TapEnd). items_of y.taken) (sym x.3) ∙ (sym (taken_is (ends_of ws all found.0) x.0 x.1) ∙ ap (λ (v : Worker). taken_by (ends_of ws all v)) w_is));
          fed = λ w n e.
              let f = some_feed (feed_at (ends_of ws all w).feeds s) n e in
              let one = all_member (λ (g : FeedEnd). g.put ≡ items_by g.number a.taken ++ items_by g.number a.left) (column s all) f.0
              (all_unmap (λ (p : PutList). p.items ≡ items_by p.number a.taken ++ items_by p.number a.left) put_of (column s all)
              (subst (AllByRecursion (λ (p : PutList). p.items ≡ items_by p.number a.taken ++ items_by p.number a.left)) puts each))
              (in_column ws all w f.0 f.1) in
              put_is (ends_of ws all w) f.0 f.1 ∙ subst (λ (m : ℕ). f.0.put ≡ items_by m a.taken ++ items_by m a.left) f.2 one;
          by = all_weaker (λ (y : Tagged). y.feeder < a.feeders) (λ (y : Tagged). (w : Worker) × (number_at (ends_of ws all w) s ≡ Some y.feeder))
              (λ y less. let o = owner ws all once same y.feeder (subst (HasNumber y.feeder) puts (covers y.feeder less)) in (o.0, o.2)) (a.taken ++ a.left) numbered;
        })

    no_feed : (fs : List (Station × FeedEnd)) → AllByRecursion (λ (f : Station × FeedEnd). Among f.0 stations) fs → (Among s stations → ⊥) → feed_at fs s ≡ None
    no_feed [] h n = refl
    no_feed (f ∷ fs) h n = cond_both (same_station f.0 s) (Some f.1) (feed_at fs s) (λ (o : Option FeedEnd). o ≡ None)
        (λ t. absurd (n (subst (λ (u : Station). Among u stations) (same_station_is f.0 s t) h.0))) (λ t. no_feed fs h.1 n)

    no_tap : (o : Option (Station × TapEnd)) (w : Worker) → (ends_of ws all w).tap ≡ o → place w ≡ s → (Among s stations → ⊥) → [] ≡ taken_by (ends_of ws all w)
    no_tap None w e at n = sym (ap (λ (o : Option (Station × TapEnd)). elim o as (λ _. List Item) [ None ↦ [] | Some t ↦ items_of t.1.taken ]) e)
    no_tap (Some t) w e at n = let p = (own w).tap t e in absurd (n (subst (λ (u : Station). Among u stations) (p.0 ∙ at) p.1))

    -- where there is no queue, nobody put or took
    shut : (Among s stations → ⊥) → IsLane (ends_of ws all) s no_account
    shut n =
        record {
          tapped = no_tap (ends_of ws all (taker s)).tap (taker s) refl (place_of_taker s) n;
          fed = λ w k e. absurd (none-some k (sym (ap (option_map (λ (f : FeedEnd). f.number)) (no_feed (ends_of ws all w).feeds (own w).feeds n)) ∙ e));
          by = tt;
        }
      where
        place_of_taker : (u : Station) → place (taker u) ≡ u
        place_of_taker u = taker_place u

    lane_at : (ss : List Station) (rests : List (Station × Rest)) → AreRejoined all ss rests → (Among s ss → Among s stations) → (Among s stations → Among s ss) → IsLane (ends_of ws all) s (account_at rests s)
    lane_at [] [] h f g = shut g
    lane_at [] (r ∷ rests) h f g = absurd h
    lane_at (u ∷ ss) [] h f g = absurd h
    lane_at (u ∷ ss) (r ∷ rests) h f g =
        elim (cases_Bool (same_station r.0 s)) [
          | inl t ↦ (
              let is : u ≡ s = sym h.0 ∙ same_station_is r.0 s t in
              subst (λ (x : Account). IsLane (ends_of ws all) s x) (sym (cond-true (same_station r.0 s) (account_in r.1) (account_at rests s) t)) (lane r.1 (subst (λ (x : Station). IsRejoinedAt all x r.1) is h.1)))
          | inr t ↦ (
              let other : s ≢ u = λ e. false≢true (sym t ∙ subst (λ (x : Station). same_station x s ≡ true) (e ∙ sym h.0) (same_station_itself s)) in
              subst (λ (x : Account). IsLane (ends_of ws all) s x) (sym (cond-false (same_station r.0 s) (account_in r.1) (account_at rests s) t))
              (lane_at ss rests h.2 (λ m. f (inr m)) (λ m. elim (g m) [ inl e ↦ absurd (other e) | inr k ↦ k ])))
        ]

pub lanes : (workers : List Worker) (all : List WorkerEnds) (stations : List Station) (rests : List (Station × Rest)) → EachOnce workers → length all ≡ length workers
    → ((w : Worker) → AreOwnEnds stations w (ends_of workers all w)) → AreRejoined all stations rests → (s : Station) → IsLane (ends_of workers all) s (account_at rests s)
lanes workers all stations rests once same own h s = lane_at s workers all stations once same own stations rests h (λ m. m) (λ m. m)

pub left_at : (all : List WorkerEnds) (stations : List Station) (rests : List (Station × Rest)) → AreRejoined all stations rests → (s : Station) → waiting (lists_of rests) s ≡ items_of (account_at rests s).left
left_at all [] [] h s = refl
left_at all [] (r ∷ rests) h s = absurd h
left_at all (u ∷ ss) [] h s = absurd h
left_at all (u ∷ ss) (r ∷ rests) h s =
    let here : left_in r.1 ≡ items_of (account_in r.1).left = rest_left h.1.0.opening h.1.2.0 r.1 h.1.2.1 in
    elim (cases_Bool (same_station r.0 s)) [
      | inl t ↦ cond-true (same_station r.0 s) (left_in r.1) (waiting (lists_of rests) s) t ∙ (here ∙ ap (λ (x : Account). items_of x.left) (sym (cond-true (same_station r.0 s) (account_in r.1) (account_at rests s) t)))
      | inr t ↦ cond-false (same_station r.0 s) (left_in r.1) (waiting (lists_of rests) s) t ∙ (left_at all ss rests h.2 s ∙ ap (λ (x : Account). items_of x.left) (sym (cond-false (same_station r.0 s) (account_in r.1) (account_at rests s) t)))
    ]

pub stations_are : (all : List WorkerEnds) (stations : List Station) (rests : List (Station × Rest)) → AreRejoined all stations rests → stations_of (lists_of rests) ≡ stations
stations_are all [] [] h = refl
stations_are all [] (r ∷ rests) h = absurd h
stations_are all (u ∷ ss) [] h = absurd h
stations_are all (u ∷ ss) (r ∷ rests) h = ap (λ (x : Station). x ∷ stations_of (lists_of rests)) h.0 ∙ ap (λ (xs : List Station). u ∷ xs) (stations_are all ss rests h.2)
