-- The ends of one worker: the tap of the station that it takes from, and a feed at each station that it puts at.
-- (This project's own.)
use Rattle.std.specs.Prelude.{◌≡◌, ℕ, List, [], ◌∷◌, Option, Some, None, map, option_map, if◌then◌else◌, ⊤}
use Rattle.std.specs.Option.{option_to_list}
use Rattle.std.specs.List.{flat_map, AllByRecursion}
use Rattle.sdl_signal.specs.declared.values.Item.{Item}
use Rattle.sdl_routes.specs.declared.route.Station.{Station}
use Rattle.sdl_queue.specs.declared.rest.Rest.{Rest}
use Rattle.sdl_queue.specs.Rest.{AreRejoinedAs}
use Rattle.sdl_queue.specs.Ends.{Opening, FeedEnd, TapEnd, items_of, AreAllEnds}
use Rattle.sdl_forward_ends.specs.Stations.{same_station, stations_of}

-- the ends of a worker, as contracts see them
pub record WorkerEnds : Type 0 where
  pub tap : Option (Station × TapEnd)
  pub feeds : List (Station × FeedEnd)

-- of who has none
abbrev pub no_ends : WorkerEnds
no_ends = record { tap = None; feeds = [] }

-- the feed at a station; none where there is none
abbrev pub feed_at : List (Station × FeedEnd) → Station → Option FeedEnd
feed_at [] s = None
feed_at (f ∷ fs) s = if same_station f.0 s then Some f.1 else feed_at fs s

-- what was put at a station, in order
abbrev pub put_at : WorkerEnds → Station → List Item
put_at e s = elim (feed_at e.feeds s) [ None ↦ [] | Some f ↦ f.put ]

-- the number of the feed at a station
abbrev pub number_at : WorkerEnds → Station → Option ℕ
number_at e s = option_map (λ (f : FeedEnd). f.number) (feed_at e.feeds s)

-- what was taken, in order
abbrev pub taken_by : WorkerEnds → List Item
taken_by e = elim e.tap [ None ↦ [] | Some t ↦ items_of t.1.taken ]

-- nothing of what was put still waits for room in a ring
abbrev pub HasNoBacklog : WorkerEnds → Type 0
HasNoBacklog e = AllByRecursion (λ (f : Station × FeedEnd). f.1.backlog ≡ []) e.feeds

-- the stations that it puts at
abbrev pub fed_by : WorkerEnds → List Station
fed_by e = stations_of e.feeds

-- which end it is, whatever was put or taken since

abbrev pub feed_identity : Station × FeedEnd → Station × (Opening × ℕ)
feed_identity f = (f.0, (f.1.opening, f.1.number))

abbrev pub tap_identity : Station × TapEnd → Station × (Opening × ℕ)
tap_identity t = (t.0, (t.1.opening, t.1.feeders))

-- they are the same ends
pub record IsSameEnds (old new : WorkerEnds) : Type 0 where
  pub feeds : map feed_identity new.feeds ≡ map feed_identity old.feeds
  pub tap : option_map tap_identity new.tap ≡ option_map tap_identity old.tap

-- the tap, where it is of this station
abbrev pub tap_at : Option (Station × TapEnd) → Station → Option TapEnd
tap_at None s = None
tap_at (Some t) s = if same_station t.0 s then Some t.1 else None

-- the feeds of a station, in the order of the workers, and its taps

abbrev pub column : Station → List WorkerEnds → List FeedEnd
column s all = flat_map (λ (e : WorkerEnds). option_to_list (feed_at e.feeds s)) all

abbrev pub taps : Station → List WorkerEnds → List TapEnd
taps s all = flat_map (λ (e : WorkerEnds). option_to_list (tap_at e.tap s)) all

-- one of the workers has the tap of the station, and all have all its feeds
abbrev pub IsWholeAt : Station → List WorkerEnds → Type 0
IsWholeAt s all = (t : TapEnd) × (taps s all ≡ t ∷ []) × AreAllEnds (column s all) t

-- they are all the ends of the queues of these stations
abbrev pub AreAllEndsOf : List Station → List WorkerEnds → Type 0
AreAllEndsOf stations all = AllByRecursion (λ (s : Station). IsWholeAt s all) stations

-- the queue or the ring of a station whose ends have come back: what each feed put, what the tap took, and what is left
abbrev pub IsRejoinedAt : List WorkerEnds → Station → Rest → Type 0
IsRejoinedAt all s rest = (t : TapEnd) × (taps s all ≡ t ∷ []) × AreRejoinedAs (column s all) t rest

-- there is one for each of the stations, in order
abbrev pub AreRejoined : List WorkerEnds → List Station → List (Station × Rest) → Type 0
AreRejoined all [] [] = ⊤
AreRejoined all (s ∷ stations) (r ∷ rests) = (r.0 ≡ s) × IsRejoinedAt all s r.1 × AreRejoined all stations rests
AreRejoined all _ _ = ⊥

-- the worker has a feed at the station
abbrev pub HasFeed : WorkerEnds → Station → Type 0
HasFeed e s = (f : FeedEnd) × (feed_at e.feeds s ≡ Some f)

-- nothing was put or taken by the ends
pub record AreFresh (e : WorkerEnds) : Type 0 where
  pub put : (s : Station) → put_at e s ≡ []
  pub taken : taken_by e ≡ []
