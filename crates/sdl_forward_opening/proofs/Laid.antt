-- What the ends of all workers are, once the queues of some stations are opened.
use Rattle.std.proofs.Common.{◌≡◌, ◌≢◌, ◌⊎◌, ℕ, zero, suc, ◌+◌, ◌<◌, ◌≤◌, Bool, true, false, cond, List, [], ◌∷◌, ◌++◌, length, map, Option, Some, None, slice_get, refl, inl, inr, ap, sym, ◌∙◌, subst, arith}
use Rattle.std.proofs.lemmas.Bool.{cond_both, cond-true, cond-false, cases_Bool, false≢true}
use Rattle.std.proofs.lemmas.Option.{none-some, same_Some}
use Rattle.std.proofs.lemmas.List.{append_assoc, append-nil, length-map}
use Rattle.std.specs.Option.{option_to_list}
use Rattle.std.specs.List.{filter, flat_map, AllByRecursion}
use Rattle.sdl_routes.specs.declared.route.Station.{Station}
use Rattle.sdl_routes.specs.declared.route.Station.TheVariants.{Line, Inlet, Outlet}
use Rattle.sdl_queue.specs.Ends.{Opening, FeedEnd, TapEnd, fresh_feed, fresh_feeds}
use Rattle.sdl_forward_ends.specs.Stations.{same_station, stations_of}
use Rattle.sdl_forward_ends.specs.Ends.{WorkerEnds, no_ends, feed_at, tap_at, column, taps}
use Rattle.sdl_forward_ends.proofs.Same.{same_station_is, same_station_itself, other_station}
use Rattle.sdl_forward_opening.specs.declared.worker.Worker.{Worker}
use Rattle.sdl_forward_opening.specs.declared.worker.Worker.TheVariants.{Block, Environment, Forwarder}
use Rattle.sdl_forward_opening.specs.Workers.{Among, place, taker}
use Rattle.sdl_forward_opening.specs.Puts.{puts_at, count_true}
use Rattle.sdl_forward_opening.specs.Opens.{IsFreshAt, fresh_tap}
use Rattle.sdl_forward_opening.specs.Hands.{with_feed, with_tap, distributed, changed_at, all_empty}
use Rattle.sdl_forward_opening.proofs.Bringing.{among_filter}

-- two lists of one length, of which each two elements at one place are so
abbrev pub AreEach : {X Y : Type 0} → (X → Y → Type 0) → List X → List Y → Type 0
AreEach P [] [] = Unit {0}
AreEach P [] (y ∷ ys) = ⊥
AreEach P (x ∷ xs) [] = ⊥
AreEach P (x ∷ xs) (y ∷ ys) = P x y × AreEach P xs ys

pub each_length : {X Y : Type 0} (P : X → Y → Type 0) (xs : List X) (ys : List Y) → AreEach P xs ys → length ys ≡ length xs
each_length P [] [] h = refl
each_length P [] (y ∷ ys) h = absurd h
each_length P (x ∷ xs) [] h = absurd h
each_length P (x ∷ xs) (y ∷ ys) h = ap suc (each_length P xs ys h.1)

-- of these stations, a feed at each at which w puts, and nothing was put
abbrev pub HasFeeds : (Station → Worker → Bool) → List Station → Worker → WorkerEnds → Type 0
HasFeeds p done w e = (stations_of e.feeds ≡ filter (λ s. p s w) done) × AllByRecursion (λ (f : Station × FeedEnd). f.1.put ≡ []) e.feeds

-- of these stations, the tap of its own place, if any, and nothing was taken
abbrev pub HasTap : List Station → Worker → WorkerEnds → Type 0
HasTap done w e = (t : Station × TapEnd) → e.tap ≡ Some t → (t.0 ≡ place w) × Among t.0 done × (t.1.taken ≡ [])

filter_more : {X : Type 0} (test : X → Bool) (x : X) (xs : List X) → filter test (xs ++ x ∷ []) ≡ filter test xs ++ cond (test x) (x ∷ []) []
filter_more test x [] = refl
filter_more test x (y ∷ xs) =
    ap (λ (ys : List _). cond (test y) (y ∷ ys) ys) (filter_more test x xs)
    ∙ cond_both (test y) (y ∷ filter test xs) (filter test xs) (λ (ys : List _). cond (test y) (y ∷ filter test xs ++ cond (test x) (x ∷ []) []) (filter test xs ++ cond (test x) (x ∷ []) []) ≡ ys ++ cond (test x) (x ∷ []) [])
    (λ e. cond-true (test y) (y ∷ filter test xs ++ cond (test x) (x ∷ []) []) (filter test xs ++ cond (test x) (x ∷ []) []) e)
    (λ e. cond-false (test y) (y ∷ filter test xs ++ cond (test x) (x ∷ []) []) (filter test xs ++ cond (test x) (x ∷ []) []) e)

stations_more : (fs : List (Station × FeedEnd)) (s : Station) (f : FeedEnd) → stations_of (fs ++ (s, f) ∷ []) ≡ stations_of fs ++ s ∷ []
stations_more [] s f = refl
stations_more (x ∷ fs) s f = ap (λ ss. x.0 ∷ ss) (stations_more fs s f)

pub all_more : {X : Type 0} (P : X → Type 0) (xs : List X) (x : X) → AllByRecursion P xs → P x → AllByRecursion P (xs ++ x ∷ [])
all_more P [] x h k = (k, tt)
all_more P (y ∷ xs) x h k = (h.0, all_more P xs x h.1 k)

pub among_more : {X : Type 0} (x y : X) (xs : List X) → Among x xs → Among x (xs ++ y ∷ [])
among_more x y [] m = absurd m
among_more x y (z ∷ xs) m = elim m [ inl e ↦ inl e | inr n ↦ inr (among_more x y xs n) ]

pub among_last : {X : Type 0} (x : X) (xs : List X) → Among x (xs ++ x ∷ [])
among_last x [] = inl refl
among_last x (y ∷ xs) = inr (among_last x xs)

-- where no feed is of the station
no_feed : (fs : List (Station × FeedEnd)) (s : Station) → (Among s (stations_of fs) → ⊥) → feed_at fs s ≡ None
no_feed [] s n = refl
no_feed (f ∷ fs) s n = cond-false (same_station f.0 s) (Some f.1) (feed_at fs s) (other_station f.0 s (λ e. n (inl (sym e)))) ∙ no_feed fs s (λ m. n (inr m))

pub in_filter : (test : Station → Bool) (x : Station) (xs : List Station) → Among x xs → test x ≡ true → Among x (filter test xs)
in_filter test x [] m t = absurd m
in_filter test x (y ∷ ys) m t =
    elim m [
      | inl e ↦ subst (Among x) (sym (cond-true (test y) (y ∷ filter test ys) (filter test ys) (subst (λ z. test z ≡ true) e t))) (inl e)
      | inr n ↦ cond_both (test y) (y ∷ filter test ys) (filter test ys) (Among x) (λ e. inr (in_filter test x ys n t)) (λ e. in_filter test x ys n t)
    ]

-- one feed more
feed_more_here : (fs : List (Station × FeedEnd)) (s : Station) (f : FeedEnd) → feed_at fs s ≡ None → feed_at (fs ++ (s, f) ∷ []) s ≡ Some f
feed_more_here [] s f e = cond-true (same_station s s) (Some f) None (same_station_itself s)
feed_more_here (x ∷ fs) s f e =
    elim (cases_Bool (same_station x.0 s)) [
      | inl t ↦ absurd (none-some x.1 (sym e ∙ cond-true (same_station x.0 s) (Some x.1) (feed_at fs s) t))
      | inr t ↦ cond-false (same_station x.0 s) (Some x.1) (feed_at (fs ++ (s, f) ∷ []) s) t ∙ feed_more_here fs s f (sym (cond-false (same_station x.0 s) (Some x.1) (feed_at fs s) t) ∙ e)
    ]

feed_more_other : (fs : List (Station × FeedEnd)) (s t : Station) (f : FeedEnd) → s ≢ t → feed_at (fs ++ (s, f) ∷ []) t ≡ feed_at fs t
feed_more_other [] s t f n = cond-false (same_station s t) (Some f) None (other_station s t n)
feed_more_other (x ∷ fs) s t f n = ap (λ (o : Option FeedEnd). cond (same_station x.0 t) (Some x.1) o) (feed_more_other fs s t f n)

-- the feeds of a station are distributed
module _ (s : Station) where
  pub column_other : (t : Station) → s ≢ t → (marks : List Bool) (fs : List FeedEnd) (all : List WorkerEnds) → column t (distributed s marks fs all) ≡ column t all
  column_other t n [] fs all = refl
  column_other t n (m ∷ marks) fs [] = refl
  column_other t n (true ∷ marks) [] (e ∷ all) = ap (λ xs. option_to_list (feed_at e.feeds t) ++ xs) (column_other t n marks [] all)
  column_other t n (true ∷ marks) (f ∷ fs) (e ∷ all) =
      ap (λ (o : Option FeedEnd). option_to_list o ++ column t (distributed s marks fs all)) (feed_more_other e.feeds s t f n)
      ∙ ap (λ xs. option_to_list (feed_at e.feeds t) ++ xs) (column_other t n marks fs all)
  column_other t n (false ∷ marks) fs (e ∷ all) = ap (λ xs. option_to_list (feed_at e.feeds t) ++ xs) (column_other t n marks fs all)

  pub column_here : (marks : List Bool) (fs : List FeedEnd) (all : List WorkerEnds) → AllByRecursion (λ (e : WorkerEnds). feed_at e.feeds s ≡ None) all → count_true marks ≡ length fs → length marks ≡ length all
      → column s (distributed s marks fs all) ≡ fs
  column_here [] [] [] none count same = refl
  column_here [] (f ∷ fs) all none count same = absurd (omega (arith, count))
  column_here [] [] (e ∷ all) none count same = absurd (omega (arith, same))
  column_here (m ∷ marks) fs [] none count same = absurd (omega (arith, same))
  column_here (true ∷ marks) [] (e ∷ all) none count same = absurd (omega (arith, count))
  column_here (true ∷ marks) (f ∷ fs) (e ∷ all) none count same =
      ap (λ (o : Option FeedEnd). option_to_list o ++ column s (distributed s marks fs all)) (feed_more_here e.feeds s f none.0)
      ∙ ap (λ xs. f ∷ xs) (column_here marks fs all none.1 (omega (arith, count)) (omega (arith, same)))
  column_here (false ∷ marks) fs (e ∷ all) none count same =
      ap (λ (o : Option FeedEnd). option_to_list o ++ column s (distributed s marks fs all)) none.0 ∙ column_here marks fs all none.1 count (omega (arith, same))

  pub taps_distributed : (t : Station) (marks : List Bool) (fs : List FeedEnd) (all : List WorkerEnds) → taps t (distributed s marks fs all) ≡ taps t all
  taps_distributed t [] fs all = refl
  taps_distributed t (m ∷ marks) fs [] = refl
  taps_distributed t (true ∷ marks) [] (e ∷ all) = ap (λ xs. option_to_list (tap_at e.tap t) ++ xs) (taps_distributed t marks [] all)
  taps_distributed t (true ∷ marks) (f ∷ fs) (e ∷ all) = ap (λ xs. option_to_list (tap_at e.tap t) ++ xs) (taps_distributed t marks fs all)
  taps_distributed t (false ∷ marks) fs (e ∷ all) = ap (λ xs. option_to_list (tap_at e.tap t) ++ xs) (taps_distributed t marks fs all)

  pub each_tap : (done : List Station) (ws : List Worker) (marks : List Bool) (fs : List FeedEnd) (all : List WorkerEnds) → AreEach (HasTap done) ws all → AreEach (HasTap done) ws (distributed s marks fs all)
  each_tap done ws [] fs all h = h
  each_tap done ws (m ∷ marks) fs [] h = h
  each_tap done [] (m ∷ marks) fs (e ∷ all) h = absurd h
  each_tap done (w ∷ ws) (true ∷ marks) [] (e ∷ all) h = (h.0, each_tap done ws marks [] all h.1)
  each_tap done (w ∷ ws) (true ∷ marks) (f ∷ fs) (e ∷ all) h = (h.0, each_tap done ws marks fs all h.1)
  each_tap done (w ∷ ws) (false ∷ marks) fs (e ∷ all) h = (h.0, each_tap done ws marks fs all h.1)

  module _ (p : Station → Worker → Bool) (done : List Station) where
    one_yes : (w : Worker) (e : WorkerEnds) (f : FeedEnd) → p s w ≡ true → f.put ≡ [] → HasFeeds p done w e → HasFeeds p (done ++ s ∷ []) w (with_feed s f e)
    one_yes w e f y none h = (
      stations_more e.feeds s f
          ∙ (ap (λ ss. ss ++ s ∷ []) h.0
          ∙ (ap (λ ss. filter (λ t. p t w) done ++ ss) (sym (cond-true (p s w) (s ∷ []) [] y)) ∙ sym (filter_more (λ t. p t w) s done))),
      all_more (λ (x : Station × FeedEnd). x.1.put ≡ []) e.feeds (s, f) h.1 none,
    )

    one_no : (w : Worker) (e : WorkerEnds) → p s w ≡ false → HasFeeds p done w e → HasFeeds p (done ++ s ∷ []) w e
    one_no w e y h = (
      h.0 ∙ (sym (append-nil (filter (λ t. p t w) done)) ∙ (ap (λ ss. filter (λ t. p t w) done ++ ss) (sym (cond-false (p s w) (s ∷ []) [] y)) ∙ sym (filter_more (λ t. p t w) s done))),
      h.1,
    )

    pub each_feeds : (ws : List Worker) (fs : List FeedEnd) (all : List WorkerEnds) → count_true (map (p s) ws) ≡ length fs → AllByRecursion (λ (f : FeedEnd). f.put ≡ []) fs
        → AreEach (HasFeeds p done) ws all → AreEach (HasFeeds p (done ++ s ∷ [])) ws (distributed s (map (p s) ws) fs all)
    each_feeds [] fs [] count none h = tt
    each_feeds [] fs (e ∷ all) count none h = absurd h
    each_feeds (w ∷ ws) fs [] count none h = absurd h
    each_feeds (w ∷ ws) [] (e ∷ all) count none h =
        elim (cases_Bool (p s w)) [
          | inl y ↦ (let c = subst (λ (b : Bool). count_true (b ∷ map (p s) ws) ≡ 0) y count in absurd (omega (arith, c)))
          | inr y ↦ (let c = subst (λ (b : Bool). count_true (b ∷ map (p s) ws) ≡ 0) y count in
              subst (λ (b : Bool). AreEach (HasFeeds p (done ++ s ∷ [])) (w ∷ ws) (distributed s (b ∷ map (p s) ws) [] (e ∷ all))) (sym y) (one_no w e y h.0, each_feeds ws [] all c none h.1))
        ]
    each_feeds (w ∷ ws) (f ∷ fs) (e ∷ all) count none h =
        elim (cases_Bool (p s w)) [
          | inl y ↦ (let c = subst (λ (b : Bool). count_true (b ∷ map (p s) ws) ≡ suc (length fs)) y count in
              subst (λ (b : Bool). AreEach (HasFeeds p (done ++ s ∷ [])) (w ∷ ws) (distributed s (b ∷ map (p s) ws) (f ∷ fs) (e ∷ all))) (sym y) (one_yes w e f y none.0 h.0, each_feeds ws fs all (omega (arith, c)) none.1 h.1))
          | inr y ↦ (let c = subst (λ (b : Bool). count_true (b ∷ map (p s) ws) ≡ suc (length fs)) y count in
              subst (λ (b : Bool). AreEach (HasFeeds p (done ++ s ∷ [])) (w ∷ ws) (distributed s (b ∷ map (p s) ws) (f ∷ fs) (e ∷ all))) (sym y) (one_no w e y h.0, each_feeds ws (f ∷ fs) all c none h.1))
        ]

-- no worker has an end of a station that is not yet opened
pub none_fed : (p : Station → Worker → Bool) (done : List Station) (s : Station) → (Among s done → ⊥) → (ws : List Worker) (all : List WorkerEnds) → AreEach (HasFeeds p done) ws all
    → AllByRecursion (λ (e : WorkerEnds). feed_at e.feeds s ≡ None) all
none_fed p done s n [] [] h = tt
none_fed p done s n [] (e ∷ all) h = absurd h
none_fed p done s n (w ∷ ws) [] h = tt
none_fed p done s n (w ∷ ws) (e ∷ all) h =
    (no_feed e.feeds s (λ m. n (among_filter (λ t. p t w) s done (subst (Among s) h.0.0 m)).0), none_fed p done s n ws all h.1)

no_tap : (o : Option (Station × TapEnd)) (s : Station) → ((t : Station × TapEnd) → o ≡ Some t → t.0 ≢ s) → tap_at o s ≡ None
no_tap None s n = refl
no_tap (Some t) s n = cond-false (same_station t.0 s) (Some t.1) None (other_station t.0 s (n t refl))

pub none_tapped : (done : List Station) (s : Station) → (Among s done → ⊥) → (ws : List Worker) (all : List WorkerEnds) → AreEach (HasTap done) ws all → AllByRecursion (λ (e : WorkerEnds). tap_at e.tap s ≡ None) all
none_tapped done s n [] [] h = tt
none_tapped done s n [] (e ∷ all) h = absurd h
none_tapped done s n (w ∷ ws) [] h = tt
none_tapped done s n (w ∷ ws) (e ∷ all) h =
    (no_tap e.tap s (λ t at same. n (subst (λ (u : Station). Among u done) same (h.0 t at).1)), none_tapped done s n ws all h.1)

place_taker : (s : Station) → place (taker s) ≡ s
place_taker (Line h) = refl
place_taker (Inlet b) = refl
place_taker Outlet = refl

-- the tap is given to its taker
module _ (s : Station) (u : TapEnd) where
  pub column_tapped : (t : Station) (k : ℕ) (all : List WorkerEnds) → column t (changed_at (with_tap s u) k all) ≡ column t all
  column_tapped t k [] = refl
  column_tapped t zero (e ∷ all) = refl
  column_tapped t (suc k) (e ∷ all) = ap (λ xs. option_to_list (feed_at e.feeds t) ++ xs) (column_tapped t k all)

  pub feeds_tapped : (p : Station → Worker → Bool) (done : List Station) (k : ℕ) (ws : List Worker) (all : List WorkerEnds) → AreEach (HasFeeds p done) ws all → AreEach (HasFeeds p done) ws (changed_at (with_tap s u) k all)
  feeds_tapped p done k ws [] h = h
  feeds_tapped p done k [] (e ∷ all) h = absurd h
  feeds_tapped p done zero (w ∷ ws) (e ∷ all) h = h
  feeds_tapped p done (suc k) (w ∷ ws) (e ∷ all) h = (h.0, feeds_tapped p done k ws all h.1)

  later_taps : (done : List Station) (ws : List Worker) (all : List WorkerEnds) → AreEach (HasTap done) ws all → AreEach (HasTap (done ++ s ∷ [])) ws all
  later_taps done [] [] h = tt
  later_taps done [] (e ∷ all) h = absurd h
  later_taps done (w ∷ ws) [] h = absurd h
  later_taps done (w ∷ ws) (e ∷ all) h = ((λ t at. let r = h.0 t at in (r.0, among_more t.0 s done r.1, r.2)), later_taps done ws all h.1)

  own_tap : (done : List Station) (w : Worker) (t : Station × TapEnd) → w ≡ taker s → u.taken ≡ [] → (s, u) ≡ t → (t.0 ≡ place w) × Among t.0 (done ++ s ∷ []) × (t.1.taken ≡ [])
  own_tap done w t is none e =
      subst (λ (x : Station × TapEnd). (x.0 ≡ place w) × Among x.0 (done ++ s ∷ []) × (x.1.taken ≡ [])) e (sym (ap place is ∙ place_taker s), among_last s done, none)

  pub taps_given : (done : List Station) → u.taken ≡ [] → (k : ℕ) (ws : List Worker) (all : List WorkerEnds) → slice_get ws k ≡ Some (taker s) → AreEach (HasTap done) ws all
      → AreEach (HasTap (done ++ s ∷ [])) ws (changed_at (with_tap s u) k all)
  taps_given done none k [] all at h = absurd (none-some (taker s) at)
  taps_given done none k (w ∷ ws) [] at h = absurd h
  taps_given done none zero (w ∷ ws) (e ∷ all) at h = ((λ t is. own_tap done w t (same_Some w (taker s) at) none (same_Some (s, u) t is)), later_taps done ws all h.1)
  taps_given done none (suc k) (w ∷ ws) (e ∷ all) at h = ((λ t is. let r = h.0 t is in (r.0, among_more t.0 s done r.1, r.2)), taps_given done none k ws all at h.1)

  tap_other : (t : Station) (e : WorkerEnds) (done : List Station) (w : Worker) → s ≢ t → w ≡ taker s → HasTap done w e → tap_at e.tap t ≡ None
  tap_other t e done w n is h = no_tap e.tap t (λ x at same. let r = h x at in n (sym (r.0 ∙ (ap place is ∙ place_taker s)) ∙ same))

  pub taps_other : (t : Station) → s ≢ t → (done : List Station) (k : ℕ) (ws : List Worker) (all : List WorkerEnds) → slice_get ws k ≡ Some (taker s) → AreEach (HasTap done) ws all
      → taps t (changed_at (with_tap s u) k all) ≡ taps t all
  taps_other t n done k [] all at h = absurd (none-some (taker s) at)
  taps_other t n done k (w ∷ ws) [] at h = absurd h
  taps_other t n done zero (w ∷ ws) (e ∷ all) at h =
      ap (λ (o : Option TapEnd). option_to_list o ++ taps t all) (cond-false (same_station s t) (Some u) None (other_station s t n) ∙ sym (tap_other t e done w n (same_Some w (taker s) at) h.0))
  taps_other t n done (suc k) (w ∷ ws) (e ∷ all) at h = ap (λ xs. option_to_list (tap_at e.tap t) ++ xs) (taps_other t n done k ws all at h.1)

  no_taps : (all : List WorkerEnds) → AllByRecursion (λ (e : WorkerEnds). tap_at e.tap s ≡ None) all → taps s all ≡ []
  no_taps [] h = refl
  no_taps (e ∷ all) h = ap (λ (o : Option TapEnd). option_to_list o ++ taps s all) h.0 ∙ no_taps all h.1

  pub taps_here : (k : ℕ) (all : List WorkerEnds) → k < length all → AllByRecursion (λ (e : WorkerEnds). tap_at e.tap s ≡ None) all → taps s (changed_at (with_tap s u) k all) ≡ u ∷ []
  taps_here k [] less none = absurd (omega (arith, less))
  taps_here zero (e ∷ all) less none =
      ap (λ (o : Option TapEnd). option_to_list o ++ taps s all) (cond-true (same_station s s) (Some u) None (same_station_itself s)) ∙ ap (λ xs. u ∷ xs) (no_taps all none.1)
  taps_here (suc k) (e ∷ all) less none = ap (λ (o : Option TapEnd). option_to_list o ++ taps s (changed_at (with_tap s u) k all)) none.0 ∙ taps_here k all (omega (arith, less)) none.1
