-- What a step of a forwarder through its own ends does. (This project's own.)
use Rattle.std.specs.Prelude.{◌≡◌, ◌≢◌, ◌⊎◌, List, [], ◌∷◌, ◌++◌, Some, None}
use Rattle.sdl_signal.specs.declared.values.Item.{Item}
use Rattle.sdl_routes.specs.declared.route.Hop.{Hop}
use Rattle.sdl_routes.specs.declared.route.TableRow.{TableRow}
use Rattle.sdl_routes.specs.declared.route.Station.{Station}
use Rattle.sdl_routes.specs.declared.route.Station.TheVariants.{Line}
use Rattle.sdl_forward_ends.specs.Ends.{WorkerEnds, HasFeed, put_at, taken_by}
use Rattle.sdl_forward.specs.declared.forwarder.Forwarded.{Forwarded}
use Rattle.sdl_forward.specs.declared.forwarder.Forwarded.TheVariants.{Moved, Idle, Held}
use Rattle.sdl_forward.specs.Forwards.{Forwarding, next_station}

-- there is a feed wherever the route of an item can lead on from this path
abbrev pub HasWaysOn : List TableRow → Hop → WorkerEnds → Type 0
HasWaysOn rows hop ends = (i : Item) (s : Station) → next_station rows (Line hop) i ≡ Some s → HasFeed ends s

-- The item is the one that was held, or else one more is taken.
abbrev pub Takes : Forwarding → WorkerEnds → Item → WorkerEnds → Type 0
Takes was old item new =
    ((was.held ≡ Some item) × (taken_by new ≡ taken_by old))
    ⊎ ((was.held ≡ None) × (taken_by new ≡ taken_by old ++ item ∷ []))

-- The item is put at its next station. Nothing is held after, and nothing is put elsewhere.
pub record PutsNext (rows : List TableRow) (was : Forwarding) (old : WorkerEnds) (is : Forwarding) (new : WorkerEnds) : Type 0 where
  pub item : Item
  pub to : Station
  pub takes : Takes was old item new
  pub next : next_station rows (Line was.hop) item ≡ Some to
  pub puts : put_at new to ≡ put_at old to ++ item ∷ []
  pub others : (s : Station) → s ≢ to → put_at new s ≡ put_at old s
  pub emptied : is ≡ record { hop = was.hop; held = None }

-- The item is held after, and nothing is put.
pub record Keeps (was : Forwarding) (old : WorkerEnds) (is : Forwarding) (new : WorkerEnds) : Type 0 where
  pub item : Item
  pub takes : Takes was old item new
  pub held : is ≡ record { hop = was.hop; held = Some item }
  pub puts : (s : Station) → put_at new s ≡ put_at old s

-- Nothing was held, and nothing is taken or put. (Others may put at the path at any time, so that it was empty is not said.)
pub record Waits (was : Forwarding) (old : WorkerEnds) (is : Forwarding) (new : WorkerEnds) : Type 0 where
  pub held : was.held ≡ None
  pub forwarder : is ≡ was
  pub taken : taken_by new ≡ taken_by old
  pub puts : (s : Station) → put_at new s ≡ put_at old s

-- what a step did, by its answer
abbrev pub Carries : List TableRow → Forwarding → WorkerEnds → Forwarded → Forwarding → WorkerEnds → Type 0
Carries rows was old Moved is new = PutsNext rows was old is new
Carries rows was old Held is new = Keeps was old is new
Carries rows was old Idle is new = Waits was old is new
