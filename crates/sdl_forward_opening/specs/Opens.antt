-- The ends of all workers when the queues of all stations are opened.
use Rattle.std.specs.Prelude.{◌≡◌, ◌↔◌, ℕ, ◌≤◌, List, [], ◌∷◌, Option, Some, None, length, map, if◌then◌else◌}
use Rattle.std.specs.List.{AllByRecursion}
use Rattle.sdl_structure_parts.specs.Structure.{Structure}
use Rattle.sdl_routes.specs.declared.route.TableRow.{TableRow}
use Rattle.sdl_routes.specs.declared.route.Station.{Station}
use Rattle.sdl_routes.specs.declared.route.Station.TheVariants.{Line, Inlet, Outlet}
use Rattle.sdl_queue.specs.Ends.{Opening, IsOfRing, FeedEnd, TapEnd, fresh_feeds}
use Rattle.sdl_forward_ends.specs.Ends.{WorkerEnds, no_ends, put_at, taken_by, column, taps, AreAllEndsOf, HasFeed}
use Rattle.sdl_forward_opening.specs.declared.worker.Worker.{Worker}
use Rattle.sdl_forward_opening.specs.Stations.{AreAllStations}
use Rattle.sdl_forward_opening.specs.Workers.{Ways, IsAgent, Among, next, place, same_worker, workers_in, ways_in}

-- w brings the items of route r to the station
abbrev pub Brings : Ways → Worker → ℕ → Station → Type 0
Brings t w r s = (next t w r ≡ Some s) × (IsAgent w → t.start r ≡ w)

-- the ends of a worker, in a list in the order of the workers
abbrev pub ends_of : List Worker → List WorkerEnds → Worker → WorkerEnds
ends_of [] all w = no_ends
ends_of (v ∷ vs) [] w = no_ends
ends_of (v ∷ vs) (e ∷ all) w = if same_worker v w then e else ends_of vs all w

-- the ends of the worker w: its tap is of its own place, and all its ends are of these stations
pub record AreOwnEnds (stations : List Station) (w : Worker) (e : WorkerEnds) : Type 0 where
  pub tap : (t : Station × TapEnd) → e.tap ≡ Some t → (t.0 ≡ place w) × Among t.0 stations
  pub feeds : AllByRecursion (λ (f : Station × FeedEnd). Among f.0 stations) e.feeds

-- a tap of this opening, of which nothing was taken
abbrev pub fresh_tap : Opening → ℕ → TapEnd
fresh_tap o feeders = record { opening = o; feeders = feeders; taken = [] }

-- a delaying path that only one worker feeds
abbrev pub IsLineOfOne : Station → ℕ → Type 0
IsLineOfOne (Line h) n = n ≡ 1
IsLineOfOne (Inlet b) n = ⊥
IsLineOfOne Outlet n = ⊥

-- a station with so many feeders is opened as a ring where only one worker feeds it and it is a path; else as a queue
abbrev pub IsOpenedAs : Opening → Station → ℕ → Type 0
IsOpenedAs o s n = IsOfRing o ↔ IsLineOfOne s n

-- the feeds of the station, in the order of the workers, are those of one opening by number; it has one tap; it is a ring or a
-- queue as the number of its feeders says
abbrev pub IsFreshAt : List WorkerEnds → Station → Type 0
IsFreshAt all s = (o : Opening) × (n : ℕ) × (column s all ≡ fresh_feeds o n) × (taps s all ≡ fresh_tap o n ∷ []) × IsOpenedAs o s n

-- Each worker has its own ends, at which nothing was put or taken, and a feed exactly where it brings items. There is a queue for
-- each station of some route, all of whose ends are among them. The feeds are numbered in the order of the workers, and there is
-- room for them when they come back.
pub record AreOpen (s : Structure) (rows : List TableRow) (all : List WorkerEnds) (shelf : List (Station × ℕ)) : Type 0 where
  pub number : length all ≡ length (workers_in s)
  pub stations : AreAllStations rows (map (λ (x : Station × ℕ). x.0) shelf)
  pub own : (w : Worker) → AreOwnEnds (map (λ (x : Station × ℕ). x.0) shelf) w (ends_of (workers_in s) all w)
  pub feeds : (w : Worker) (r : ℕ) (t : Station) → Brings (ways_in s rows) w r t → HasFeed (ends_of (workers_in s) all w) t
  pub only : (w : Worker) (t : Station) → HasFeed (ends_of (workers_in s) all w) t → (r : ℕ) × Brings (ways_in s rows) w r t
  pub put : (w : Worker) (t : Station) → put_at (ends_of (workers_in s) all w) t ≡ []
  pub taken : (w : Worker) → taken_by (ends_of (workers_in s) all w) ≡ []
  pub fresh : AllByRecursion (IsFreshAt all) (map (λ (x : Station × ℕ). x.0) shelf)
  pub whole : AreAllEndsOf (map (λ (x : Station × ℕ). x.0) shelf) all
  pub room : AllByRecursion (λ (x : Station × ℕ). length (column x.0 all) ≤ x.1) shelf
