-- The ends that come back, station by station.
use Rattle.std.specs.Prelude.{◌≡◌, ℕ, zero, suc, ◌≤◌, List, [], ◌∷◌, ◌++◌, Option, Some, None, length, map, vec_capacity, if◌then◌else◌}
use Rattle.std.specs.List.{AllByRecursion}
use Rattle.sdl_routes.specs.Routes.{EachOnce}
use Rattle.sdl_queue.specs.declared.rest.Rest.{Rest}
use Rattle.sdl_routes.specs.declared.route.Station.{Station}
use Rattle.sdl_queue.specs.Ends.{FeedEnd, TapEnd}
use Rattle.sdl_forward_ends.specs.Stations.{same_station, stations_of}
use Rattle.sdl_forward_ends.specs.Ends.{WorkerEnds, column, taps, IsWholeAt, AreRejoined}
use Rattle.sdl_forward_ends.specs.declared.shelf.Slot.{Slot}

abbrev pub room_of : Slot → Station × ℕ
room_of slot = (slot.station, vec_capacity slot.feeds)

abbrev pub IsFree : Slot → Type 0
IsFree slot = slot.feeds.items ≡ []

-- the feeds but the first of the station
abbrev pub drop_feed : Station → List (Station × FeedEnd) → List (Station × FeedEnd)
drop_feed s [] = []
drop_feed s (f ∷ fs) = if same_station f.0 s then fs else f ∷ drop_feed s fs

-- the tap, unless it is of the station
abbrev pub drop_tap : Station → Option (Station × TapEnd) → Option (Station × TapEnd)
drop_tap s None = None
drop_tap s (Some t) = if same_station t.0 s then None else Some t

-- the ends without those of the station
abbrev pub without : Station → WorkerEnds → WorkerEnds
without s e = record { tap = drop_tap s e.tap; feeds = drop_feed s e.feeds }

-- the elements with f of each before place k
abbrev pub partly : {X : Type 0} → (X → X) → ℕ → List X → List X
partly f zero xs = xs
partly f (suc k) [] = []
partly f (suc k) (x ∷ xs) = f x ∷ partly f k xs

-- the second, where there is one
abbrev pub later_of : {X : Type 0} → Option X → Option X → Option X
later_of o None = o
later_of o (Some x) = Some x

-- the last of a list
abbrev pub latest : {X : Type 0} → List X → Option X
latest [] = None
latest (x ∷ xs) = later_of (Some x) (latest xs)

-- the slots left, the queues that are back and the ends that are still out, where all ends were these
pub record IsUnderway (all : List WorkerEnds) (stations : List Station) (slots : List Slot) (rests : List (Station × Rest)) (now : List WorkerEnds) : Type 0 where
  pub are : stations_of rests ++ map (λ (x : Slot). x.station) slots ≡ stations
  pub back : AreRejoined all (stations_of rests) rests
  pub once : EachOnce (map (λ (x : Slot). x.station) slots)
  pub free : AllByRecursion IsFree slots
  pub whole : AllByRecursion (λ (x : Slot). IsWholeAt x.station all) slots
  pub room : AllByRecursion (λ (x : Slot). length (column x.station all) ≤ vec_capacity x.feeds) slots
  pub same : AllByRecursion (λ (x : Slot). (column x.station now ≡ column x.station all) × (taps x.station now ≡ taps x.station all)) slots
