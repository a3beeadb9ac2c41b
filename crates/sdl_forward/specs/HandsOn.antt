-- What holds of a forwarder and its ends after any number of steps. (This project's own.)
use Rattle.std.specs.Prelude.{◌≡◌, ◌⊎◌, List, ◌++◌, Some, filter}
use Rattle.std.specs.Option.{option_to_list}
use Rattle.std.specs.List.{AllByRecursion}
use Rattle.sdl_signal.specs.declared.values.Item.{Item}
use Rattle.sdl_routes.specs.declared.route.Hop.{Hop}
use Rattle.sdl_routes.specs.declared.route.TableRow.{TableRow}
use Rattle.sdl_routes.specs.declared.route.Station.{Station}
use Rattle.sdl_routes.specs.declared.route.Station.TheVariants.{Line}
use Rattle.sdl_forward_ends.specs.Ends.{WorkerEnds, put_at, taken_by}
pub use Rattle.sdl_forward_ends.specs.Ends.{AreFresh}
use Rattle.sdl_forward_ends.specs.Stations.{is_station}
use Rattle.sdl_forward.specs.Forwards.{Forwarding, next_station}
use Rattle.sdl_forward.specs.Carries.{HasWaysOn}

-- those of the items whose next station from this path is the one named, in order
abbrev pub going_to : List TableRow → Hop → Station → List Item → List Item
going_to rows hop s items = filter (λ i. is_station s (next_station rows (Line hop) i)) items

-- the item has a next station from this path
abbrev pub GoesOn : List TableRow → Hop → Item → Type 0
GoesOn rows hop i = (s : Station) × (next_station rows (Line hop) i ≡ Some s)

-- What the steps of a forwarder keep. It has a feed wherever an item can lead on. All that it took was put, but what it holds,
-- each item at its next station, in order.
pub record IsHandingOn (rows : List TableRow) (forwarder : Forwarding) (ends : WorkerEnds) : Type 0 where
  pub ways : HasWaysOn rows forwarder.hop ends
  pub put : List Item
  pub whole : put ++ option_to_list forwarder.held ≡ taken_by ends
  pub each : (s : Station) → put_at ends s ≡ going_to rows forwarder.hop s put
  pub on : AllByRecursion (GoesOn rows forwarder.hop) put

-- What holds after any number of steps: at each station, what was put there stands before the held item, where its next
-- station is that one. Together they are those of the items taken whose next station is that one; and each item taken has a
-- next station, or is held.
pub record HasHandedOn (rows : List TableRow) (forwarder : Forwarding) (ends : WorkerEnds) : Type 0 where
  pub went : (s : Station) → put_at ends s ++ going_to rows forwarder.hop s (option_to_list forwarder.held) ≡ going_to rows forwarder.hop s (taken_by ends)
  pub on : AllByRecursion (λ i. GoesOn rows forwarder.hop i ⊎ (forwarder.held ≡ Some i)) (taken_by ends)
