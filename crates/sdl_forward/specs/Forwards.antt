-- Handing on: what a forwarder does with an item.
use Rattle.std.specs.Prelude.{◌≡◌, ◌≢◌, List, [], ◌∷◌, ◌++◌, Option, Some, None, slice_get, option_and_then}
use Rattle.std.specs.Option.{option_to_list}
use Rattle.sdl_signal.specs.declared.values.Item.{Item}
use Rattle.sdl_routes.specs.declared.route.Hop.{Hop}
use Rattle.sdl_routes.specs.declared.route.TableRow.{TableRow}
use Rattle.sdl_routes.specs.declared.route.Station.{Station}
use Rattle.sdl_routes.specs.declared.route.Station.TheVariants.{Line}
use Rattle.sdl_forward.specs.declared.forwarder.Forwarded.{Forwarded}
use Rattle.sdl_forward.specs.declared.forwarder.Forwarded.TheVariants.{Moved, Idle, Held}
pub use Rattle.sdl_forward_ends.specs.Stations.{station_behind}
use Rattle.sdl_forward.specs.Boards.{waiting, ChangesOnly}

-- A forwarder, as contracts see it: the delaying path that it takes items from, and the item that it holds.
pub record Forwarding : Type 0 where
  pub hop : Hop
  pub held : Option Item

-- where the item goes from this station, on its route; nowhere where the table has no such route
abbrev pub next_station : List TableRow → Station → Item → Option Station
next_station rows s item = option_and_then (λ row. station_behind s row.route.stations.items) (slice_get rows item.route.0)

-- at a forwarder's path: the item that it holds, then those that wait
abbrev pub standing : Forwarding → List (Station × List Item) → List Item
standing forwarder board = option_to_list forwarder.held ++ waiting board (Line forwarder.hop)

-- The item that stood first at the forwarder's path is put at the back of its next station. Nothing is held after, and nothing
-- else changes.
pub record Moves (rows : List TableRow) (was : Forwarding) (old : List (Station × List Item)) (is : Forwarding) (new : List (Station × List Item)) : Type 0 where
  pub item : Item
  pub to : Station
  pub first : standing was old ≡ item ∷ waiting new (Line was.hop)
  pub next : next_station rows (Line was.hop) item ≡ Some to
  pub further : to ≢ Line was.hop
  pub back : waiting new to ≡ waiting old to ++ item ∷ []
  pub others : (s : Station) → s ≢ Line was.hop → s ≢ to → waiting new s ≡ waiting old s
  pub emptied : is ≡ record { hop = was.hop; held = None }

-- The item that stood first at the forwarder's path is held, and nothing is put.
pub record Holds (was : Forwarding) (old : List (Station × List Item)) (is : Forwarding) (new : List (Station × List Item)) : Type 0 where
  pub item : Item
  pub first : standing was old ≡ item ∷ waiting new (Line was.hop)
  pub held : is ≡ record { hop = was.hop; held = Some item }
  pub others : ChangesOnly old new (Line was.hop)

-- Nothing stands at the forwarder's path, and nothing changes.
pub record Rests (was : Forwarding) (old : List (Station × List Item)) (is : Forwarding) (new : List (Station × List Item)) : Type 0 where
  pub held : was.held ≡ None
  pub empty : waiting old (Line was.hop) ≡ []
  pub forwarder : is ≡ was
  pub board : new ≡ old

-- what a step did, by its answer
abbrev pub Forwards : List TableRow → Forwarding → List (Station × List Item) → Forwarded → Forwarding → List (Station × List Item) → Type 0
Forwards rows was old Moved is new = Moves rows was old is new
Forwards rows was old Held is new = Holds was old is new
Forwards rows was old Idle is new = Rests was old is new
