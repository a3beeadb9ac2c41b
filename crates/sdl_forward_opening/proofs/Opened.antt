-- When the queues of all stations are opened.
use Rattle.std.proofs.Common.{◌≡◌, ◌≢◌, ◌⊎◌, ℕ, zero, suc, ◌+◌, ◌<◌, ◌≤◌, Bool, true, false, cond, List, [], ◌∷◌, ◌++◌, length, map, take, Option, Some, None, slice_get, slice_index_or, Contains, refl, inl, inr, ap, sym, ◌∙◌, subst, arith, add-one}
use Rattle.std.proofs.lemmas.Bool.{cond_both, cond-true, cond-false, cases_Bool, false≢true}
use Rattle.std.proofs.lemmas.Option.{none-some, same_Some, slice_get_cases, slice_get_read}
use Rattle.std.specs.List.{filter, AllByRecursion}
use Rattle.sdl_signal.specs.declared.values.Item.{Item}
use Rattle.sdl_structure_parts.specs.Structure.{Structure, IsStructure}
use Rattle.sdl_routes.specs.declared.route.Hop.{Hop}
use Rattle.sdl_routes.specs.declared.route.TableRow.{TableRow}
use Rattle.sdl_routes.specs.declared.route.Station.{Station}
use Rattle.sdl_routes.specs.declared.route.Station.TheVariants.{Line, Inlet, Outlet}
use Rattle.sdl_routes.specs.Routes.{IsRoute, AreRoutesOf, AreRoutesShort, EachOnce, hop_number}
use Rattle.sdl_queue.specs.Ends.{Opening, FeedEnd, TapEnd, fresh_feeds, items_of, AreAllEnds}
use Rattle.sdl_queue.proofs.Opens.{all_fresh}
use Rattle.sdl_forward_ends.specs.Stations.{same_station, stations_of}
use Rattle.sdl_forward_ends.specs.Ends.{WorkerEnds, no_ends, feed_at, put_at, taken_by, column, IsWholeAt, HasFeed}
use Rattle.sdl_forward_ends.proofs.Same.{same_station_is, same_station_itself}
use Rattle.sdl_forward_opening.specs.declared.worker.Worker.{Worker}
use Rattle.sdl_forward_opening.specs.declared.worker.Worker.TheVariants.{Block, Environment, Forwarder}
use Rattle.sdl_forward_opening.specs.Stations.{IsStationOf, IsStationBefore, AreStationsInOrder, AreAllStations}
use Rattle.sdl_forward_opening.specs.Workers.{Among, Ways, first, next, place, taker, starter, station_behind, same_worker, workers_in, ways_in}
use Rattle.sdl_forward_opening.specs.Puts.{puts_at}
use Rattle.sdl_forward_opening.specs.Hands.{AddsQueue}
use Rattle.sdl_forward_opening.specs.Opens.{Brings, ends_of, AreOwnEnds, IsFreshAt, fresh_tap, AreOpen}
use Rattle.sdl_forward_opening.proofs.Laid.{AreEach, HasFeeds, HasTap, each_length, in_filter}
use Rattle.sdl_forward_opening.proofs.Laying.{IsLaid, lays_more}
use Rattle.sdl_forward_opening.proofs.Bringing.{same_worker_is, same_worker_itself, puts_row, row_puts, puts_brings, brings_puts, has_behind, all_at, among_filter}
use Rattle.sdl_forward_opening.proofs.Takers.{environment_in, starter_in, taker_in}

-- elements by place

contains_at : {X : Type 0} (xs : List X) (k : ℕ) (x : X) → k < length xs → slice_index_or xs k x ≡ x → Among x xs
contains_at [] k x less e = absurd (omega (arith, less))
contains_at (y ∷ xs) zero x less e = inl (sym e)
contains_at (y ∷ xs) (suc k) x less e = inr (contains_at xs k x (omega (arith, less)) e)

pub contains_among : {X : Type 0} (xs : List X) (x : X) → Contains xs x → Among x xs
contains_among xs x h = contains_at xs h.0 x h.1 h.2

pub among_contains : {X : Type 0} (xs : List X) (x : X) → Among x xs → Contains xs x
among_contains [] x m = absurd m
among_contains (y ∷ xs) x m = elim m [
  | inl e ↦ (0, omega arith, sym e)
  | inr n ↦ (let r = among_contains xs x n in let less : r.0 < length xs = r.1 in (suc r.0, omega (arith, less), r.2))
]

get_index : {X : Type 0} (xs : List X) (k : ℕ) (x : X) → slice_get xs k ≡ Some x → (k < length xs) × (slice_index_or xs k x ≡ x)
get_index [] k x at = absurd (none-some x at)
get_index (y ∷ xs) zero x at = (omega arith, same_Some y x at)
get_index (y ∷ xs) (suc k) x at = let r = get_index xs k x at in let less : k < length xs = r.0 in (omega (arith, less), r.1)

-- stations in order

before_itself : (s : Station) → IsStationBefore s s → ⊥
before_itself (Line h) b = omega (arith, b)
before_itself (Inlet c) b = omega (arith, b)
before_itself Outlet b = b

pub all_weaker : {X : Type 0} (P Q : X → Type 0) → ((x : X) → P x → Q x) → (xs : List X) → AllByRecursion P xs → AllByRecursion Q xs
all_weaker P Q f [] h = tt
all_weaker P Q f (x ∷ xs) h = (f x h.0, all_weaker P Q f xs h.1)

-- a station does not stand before its place
pub order_apart : (ss : List Station) (k : ℕ) (s : Station) → AreStationsInOrder ss → slice_get ss k ≡ Some s → Among s (take k ss) → ⊥
order_apart [] k s order at m = none-some s at
order_apart (x ∷ ss) zero s order at m = m
order_apart (x ∷ ss) (suc k) s order at m = elim m [
  | inl e ↦ before_itself s (subst (λ (u : Station). IsStationBefore u s) (sym e) (all_at (IsStationBefore x) ss k s order.0 at))
  | inr n ↦ order_apart ss k s order.1 at n
]

pub order_once : (ss : List Station) → AreStationsInOrder ss → EachOnce ss
order_once [] order = tt
order_once (s ∷ ss) order =
    (all_weaker (IsStationBefore s) (λ t. s ≢ t) (λ t b e. before_itself s (subst (IsStationBefore s) (sym e) b)) ss order.0, order_once ss order.1)

pub all_filter : {X : Type 0} (P : X → Type 0) (test : X → Bool) (xs : List X) → AllByRecursion P xs → AllByRecursion P (filter test xs)
all_filter P test [] h = tt
all_filter P test (x ∷ xs) h = cond_both (test x) (x ∷ filter test xs) (filter test xs) (AllByRecursion P) (λ e. (h.0, all_filter P test xs h.1)) (λ e. all_filter P test xs h.1)

once_filter : {X : Type 0} (test : X → Bool) (xs : List X) → EachOnce xs → EachOnce (filter test xs)
once_filter test [] h = tt
once_filter test (x ∷ xs) h =
    cond_both (test x) (x ∷ filter test xs) (filter test xs) EachOnce (λ e. (all_filter (λ y. x ≢ y) test xs h.0, once_filter test xs h.1)) (λ e. once_filter test xs h.1)

-- no worker has two feeds at a station
pub each_once : (p : Station → Worker → Bool) (done : List Station) → EachOnce done → (ws : List Worker) (all : List WorkerEnds) → AreEach (HasFeeds p done) ws all
    → AllByRecursion (λ (e : WorkerEnds). EachOnce (stations_of e.feeds)) all
each_once p done once [] [] h = tt
each_once p done once [] (e ∷ all) h = absurd h
each_once p done once (w ∷ ws) [] h = tt
each_once p done once (w ∷ ws) (e ∷ all) h = (subst EachOnce (sym h.0.0) (once_filter (λ s. p s w) done once), each_once p done once ws all h.1)

take_suc : {X : Type 0} (xs : List X) (k : ℕ) (x : X) → slice_get xs k ≡ Some x → take (suc k) xs ≡ take k xs ++ x ∷ []
take_suc [] k x at = absurd (none-some x at)
take_suc (y ∷ xs) zero x at = ap (λ z. z ∷ []) (same_Some y x at)
take_suc (y ∷ xs) (suc k) x at = ap (λ zs. y ∷ zs) (take_suc xs k x at)

pub take_more : {X : Type 0} (xs : List X) (k : ℕ) (x : X) → slice_get xs k ≡ Some x → take (k + 1) xs ≡ take k xs ++ x ∷ []
take_more xs k x at = ap (λ n. take n xs) (add-one k) ∙ take_suc xs k x at

pub take_whole : {X : Type 0} (xs : List X) (k : ℕ) → length xs ≤ k → take k xs ≡ xs
take_whole [] zero past = refl
take_whole [] (suc k) past = refl
take_whole (x ∷ xs) zero past = absurd (omega (arith, past))
take_whole (x ∷ xs) (suc k) past = ap (λ ys. x ∷ ys) (take_whole xs k (omega (arith, past)))

-- the ends of one worker

module _ (P : Worker → WorkerEnds → Type 0) (w : Worker) where
  ends_at : (ws : List Worker) (all : List WorkerEnds) → AreEach P ws all → Among w ws → P w (ends_of ws all w)
  ends_at [] all h m = absurd m
  ends_at (v ∷ ws) [] h m = absurd h
  ends_at (v ∷ ws) (e ∷ all) h m =
      cond_both (same_worker v w) e (ends_of ws all w) (P w) (λ t. subst (λ (x : Worker). P x e) (same_worker_is v w t) h.0)
      (λ t. elim m [ inl f ↦ absurd (false≢true (sym t ∙ subst (λ (x : Worker). same_worker x w ≡ true) f (same_worker_itself w))) | inr n ↦ ends_at ws all h.1 n ])

  ends_cases : (ws : List Worker) (all : List WorkerEnds) → AreEach P ws all → P w (ends_of ws all w) ⊎ (ends_of ws all w ≡ no_ends)
  ends_cases [] all h = inr refl
  ends_cases (v ∷ ws) [] h = absurd h
  ends_cases (v ∷ ws) (e ∷ all) h =
      cond_both (same_worker v w) e (ends_of ws all w) (λ (x : WorkerEnds). P w x ⊎ (x ≡ no_ends)) (λ t. inl (subst (λ (x : Worker). P x e) (same_worker_is v w t) h.0)) (λ t. ends_cases ws all h.1)

all_among : (ss : List Station) (fs : List (Station × FeedEnd)) → ((t : Station) → Among t (stations_of fs) → Among t ss) → AllByRecursion (λ (f : Station × FeedEnd). Among f.0 ss) fs
all_among ss [] m = tt
all_among ss (f ∷ fs) m = (m f.0 (inl refl), all_among ss fs (λ t n. m t (inr n)))

unput_at : (fs : List (Station × FeedEnd)) (t : Station) → AllByRecursion (λ (f : Station × FeedEnd). f.1.put ≡ []) fs → elim (feed_at fs t) as (λ _. List Item) [ None ↦ [] | Some f ↦ f.put ] ≡ []
unput_at [] t h = refl
unput_at (f ∷ fs) t h =
    cond_both (same_station f.0 t) (Some f.1) (feed_at fs t) (λ (o : Option FeedEnd). elim o as (λ _. List Item) [ None ↦ [] | Some g ↦ g.put ] ≡ []) (λ e. h.0) (λ e. unput_at fs t h.1)

untaken : (o : Option (Station × TapEnd)) → ((t : Station × TapEnd) → o ≡ Some t → t.1.taken ≡ []) → elim o as (λ _. List Item) [ None ↦ [] | Some t ↦ items_of t.1.taken ] ≡ []
untaken None h = refl
untaken (Some t) h = ap items_of (h t refl)

has_feed : (fs : List (Station × FeedEnd)) (t : Station) → Among t (stations_of fs) → (f : FeedEnd) × (feed_at fs t ≡ Some f)
has_feed [] t m = absurd m
has_feed (f ∷ fs) t m =
    elim (cases_Bool (same_station f.0 t)) [
      | inl y ↦ (f.1, cond-true (same_station f.0 t) (Some f.1) (feed_at fs t) y)
      | inr y ↦ elim m [
        | inl e ↦ absurd (false≢true (sym y ∙ subst (λ (u : Station). same_station u t ≡ true) e (same_station_itself t)))
        | inr n ↦ (let r = has_feed fs t n in (r.0, cond-false (same_station f.0 t) (Some f.1) (feed_at fs t) y ∙ r.1))
      ]
    ]

feed_among : (fs : List (Station × FeedEnd)) (t : Station) (g : FeedEnd) → feed_at fs t ≡ Some g → Among t (stations_of fs)
feed_among [] t g e = absurd (none-some g e)
feed_among (f ∷ fs) t g e =
    elim (cases_Bool (same_station f.0 t)) [
      | inl y ↦ inl (sym (same_station_is f.0 t y))
      | inr y ↦ inr (feed_among fs t g (sym (cond-false (same_station f.0 t) (Some f.1) (feed_at fs t) y) ∙ e))
    ]

fresh_whole : (all : List WorkerEnds) (s : Station) → IsFreshAt all s → IsWholeAt s all
fresh_whole all s (o, n, col, tap, kind) =
    (fresh_tap o n, tap, subst (λ (fs : List FeedEnd). AreAllEnds fs (fresh_tap o n)) (sym col) (all_fresh (fresh_feeds o n) (fresh_tap o n) refl))

no_way : (t : Ways) (w : Worker) (r : ℕ) (s : Station) → t.stations r ≡ [] → next t w r ≡ Some s → ⊥
no_way t (Block b) r s none e = none-some s (sym (ap first none) ∙ e)
no_way t Environment r s none e = none-some s (sym (ap first none) ∙ e)
no_way t (Forwarder h) r s none e = none-some s (sym (ap (station_behind (Line h)) none) ∙ e)

module _ (str : Structure) (rows : List TableRow) (ok : IsStructure str) (table : AreRoutesOf str rows) (short : AreRoutesShort str) where
  -- the route of a number that leads somewhere
  row_of : (w : Worker) (r : ℕ) (s : Station) → Brings (ways_in str rows) w r s → (row : TableRow) × (slice_get rows r ≡ Some row)
  row_of w r s b = elim (slice_get_cases rows r).1 [
    | inl h ↦ (h.0, h.2)
    | inr h ↦ absurd (no_way (ways_in str rows) w r s (ap (λ (o : Option TableRow). elim o as (λ _. List Station) [ None ↦ [] | Some x ↦ x.route.stations.items ]) h.1) b.0)
  ]

  route_of : (r : ℕ) (row : TableRow) → slice_get rows r ≡ Some row → IsRoute str row
  route_of r row at = all_at (IsRoute str) rows r row table.sound at

  once_of : (r : ℕ) (row : TableRow) → slice_get rows r ≡ Some row → EachOnce row.route.stations.items
  once_of r row at = (short row (route_of r row at)).3

  -- who brings something is among the workers
  bringer_in : (w : Worker) (r : ℕ) (s : Station) (row : TableRow) → slice_get rows r ≡ Some row → Brings (ways_in str rows) w r s → Among w (workers_in str)
  bringer_in (Block b) r s row at h = subst (λ (v : Worker). Among v (workers_in str)) (start row at (Block b) (h.1 tt)) (starter_in str ok row.source)
    where
      start : (row : TableRow) → slice_get rows r ≡ Some row → (w : Worker) → (ways_in str rows).start r ≡ w → starter str row.source ≡ w
      start row at w e = sym (ap (λ (o : Option TableRow). elim o as (λ _. Worker) [ None ↦ Environment | Some x ↦ starter str x.source ]) at) ∙ e
  bringer_in Environment r s row at h = environment_in str
  bringer_in (Forwarder k) r s row at h =
      taker_in str ok row (Line k) (route_of r row at)
      (has_behind (Line k) row.route.stations.items s (sym (ap (λ (o : Option TableRow). station_behind (Line k) (elim o as (λ _. List Station) [ None ↦ [] | Some x ↦ x.route.stations.items ])) at) ∙ h.0))

  -- who takes from a station of some route is among the workers
  pub taker_among : (s : Station) → IsStationOf rows s → Among (taker s) (workers_in str)
  taker_among s (r, row, less, at, c) =
      taker_in str ok row s (route_of r row (slice_get_read rows (length rows) r row refl less (sym at))) (contains_among row.route.stations.items s c)

  module _ (stations : List Station) (every : AreAllStations rows stations) (all : List WorkerEnds) (shelf : List (Station × ℕ)) (laid : IsLaid (puts_at str rows) (workers_in str) stations all shelf) where
    abbrev ends : Worker → WorkerEnds
    ends w = ends_of (workers_in str) all w

    own_ends : (w : Worker) → AreOwnEnds stations w (ends w)
    own_ends w = record { tap = taps_own; feeds = feeds_own }
      where
        taps_own : (t : Station × TapEnd) → (ends w).tap ≡ Some t → (t.0 ≡ place w) × Among t.0 stations
        taps_own t e = elim (ends_cases (HasTap stations) w (workers_in str) all laid.tap) [
          | inl h ↦ (let r = h t e in (r.0, r.1))
          | inr n ↦ absurd (none-some t (sym (ap (λ (x : WorkerEnds). x.tap) n) ∙ e))
        ]

        feeds_own : AllByRecursion (λ (f : Station × FeedEnd). Among f.0 stations) (ends w).feeds
        feeds_own = elim (ends_cases (HasFeeds (puts_at str rows) stations) w (workers_in str) all laid.feeds) [
          | inl h ↦ all_among stations (ends w).feeds (λ t m. (among_filter (λ s. puts_at str rows s w) t stations (subst (Among t) h.0 m)).0)
          | inr n ↦ subst (λ (x : WorkerEnds). AllByRecursion (λ (f : Station × FeedEnd). Among f.0 stations) x.feeds) (sym n) tt
        ]

    brought : (w : Worker) (r : ℕ) (t : Station) → Brings (ways_in str rows) w r t → HasFeed (ends w) t
    brought w r t b =
        let row = row_of w r t b in
        let route = route_of r row.0 row.1 in
        let puts = brings_puts str rows r row.0 row.1 route (once_of r row.0 row.1) t w b in
        let yes : puts_at str rows t w ≡ true = row_puts str t w rows r row.0 row.1 puts.0 in
        let index = get_index rows r row.0 row.1 in
        let station : Among t stations = contains_among stations t (every.every t (r, row.0, index.0, index.1, among_contains row.0.route.stations.items t puts.1)) in
        let h = ends_at (HasFeeds (puts_at str rows) stations) w (workers_in str) all laid.feeds (bringer_in w r t row.0 row.1 b) in
        has_feed (ends w).feeds t (subst (Among t) (sym h.0) (in_filter (λ s. puts_at str rows s w) t stations station yes))

    fed_only : (w : Worker) (t : Station) → HasFeed (ends w) t → (r : ℕ) × Brings (ways_in str rows) w r t
    fed_only w t f = elim (ends_cases (HasFeeds (puts_at str rows) stations) w (workers_in str) all laid.feeds) [
      | inl h ↦ (
          let m = among_filter (λ s. puts_at str rows s w) t stations (subst (Among t) h.0 (feed_among (ends w).feeds t f.0 f.1)) in
          let p = puts_row str t w rows m.1 in
          (p.0, puts_brings str rows p.0 p.1 p.2 (route_of p.0 p.1 p.2) (once_of p.0 p.1 p.2) t w p.3))
      | inr n ↦ absurd (none-some f.0 (sym (ap (λ (x : WorkerEnds). feed_at x.feeds t) n) ∙ f.1))
    ]

    nothing_put : (w : Worker) (t : Station) → put_at (ends w) t ≡ []
    nothing_put w t = elim (ends_cases (HasFeeds (puts_at str rows) stations) w (workers_in str) all laid.feeds) [
      | inl h ↦ unput_at (ends w).feeds t h.1
      | inr n ↦ ap (λ (x : WorkerEnds). put_at x t) n
    ]

    nothing_taken : (w : Worker) → taken_by (ends w) ≡ []
    nothing_taken w = elim (ends_cases (HasTap stations) w (workers_in str) all laid.tap) [
      | inl h ↦ untaken (ends w).tap (λ t e. (h t e).2)
      | inr n ↦ ap taken_by n
    ]

    pub all_opened : AreOpen str rows all shelf
    all_opened = record {
      number = each_length (HasTap stations) (workers_in str) all laid.tap;
      stations = subst (AreAllStations rows) (sym laid.are) every;
      own = λ w. subst (λ ss. AreOwnEnds ss w (ends w)) (sym laid.are) (own_ends w);
      feeds = brought;
      only = fed_only;
      put = nothing_put;
      taken = nothing_taken;
      fresh = subst (AllByRecursion (IsFreshAt all)) (sym laid.are) laid.fresh;
      whole = subst (AllByRecursion (λ (s : Station). IsWholeAt s all)) (sym laid.are) (all_weaker (IsFreshAt all) (λ s. IsWholeAt s all) (fresh_whole all) stations laid.fresh);
      room = laid.room;
    }

  -- station by station
  module _ (stations : List Station) (every : AreAllStations rows stations) (k : ℕ) where
    pub taker_at : (s : Station) (ws : List Worker) → slice_get stations k ≡ Some s → ws ≡ workers_in str → Among (taker s) ws
    taker_at s ws at are =
        let index = get_index stations k s at in
        subst (Among (taker s)) (sym are) (taker_among s (every.only s (k, index.0, index.1)))

    pub lays_on : (s : Station) (ws vs : List Worker) (st : Structure) (marks : List Bool) (old new : List WorkerEnds) (shelf later : List (Station × ℕ)) → slice_get stations k ≡ Some s → ws ≡ workers_in str → vs ≡ workers_in str
        → marks ≡ map (puts_at st rows s) vs → st ≡ str → IsLaid (puts_at str rows) (workers_in str) (take k stations) old shelf → AddsQueue ws marks s old new shelf later
        → IsLaid (puts_at str rows) (workers_in str) (take (k + 1) stations) new later
    lays_on s ws vs st marks old new shelf later at are same marked is laid adds =
        subst (λ (ss : List Station). IsLaid (puts_at str rows) (workers_in str) ss new later) (sym (take_more stations k s at))
        (lays_more (puts_at str rows) (workers_in str) (take k stations) s (order_apart stations k s every.order at) old new shelf later laid
        (subst (λ (bs : List Bool). AddsQueue (workers_in str) bs s old new shelf later) (marked ∙ (ap (λ (x : Structure). map (puts_at x rows s) vs) is ∙ ap (map (puts_at str rows s)) same))
        (subst (λ (us : List Worker). AddsQueue us marks s old new shelf later) are adds)))

    module _ (past : length stations ≤ k) (all : List WorkerEnds) (shelf : List (Station × ℕ)) (laid : IsLaid (puts_at str rows) (workers_in str) (take k stations) all shelf) where
      laid_whole : IsLaid (puts_at str rows) (workers_in str) stations all shelf
      laid_whole = subst (λ (ss : List Station). IsLaid (puts_at str rows) (workers_in str) ss all shelf) (take_whole stations k past) laid

      pub all_once : AllByRecursion (λ (e : WorkerEnds). EachOnce (stations_of e.feeds)) all
      all_once = each_once (puts_at str rows) stations (order_once stations every.order) (workers_in str) all laid_whole.feeds

      pub opened : (ends : List WorkerEnds) → ends ≡ all → AreOpen str rows ends shelf
      opened ends e = subst (λ (es : List WorkerEnds). AreOpen str rows es shelf) (sym e) (all_opened stations every all shelf laid_whole)
