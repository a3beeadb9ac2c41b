-- The rows of each instance. (This project's own.)
use Rattle.std.specs.Prelude.{ℕ, ◌==◌, ◌&&◌, Bool, true, false, List, [], ◌∷◌, ◌++◌, flat_map, option_map, unwrap_or}
use Rattle.std.specs.List.Sorted.{IsPermutation, IsSorted}
use Rattle.std.specs.declared.cmp.Ordering.{Ordering}
use Rattle.std.specs.Ordering.{ordering_then, nat_cmp, bool_cmp}
use Rattle.sdl_signal.specs.declared.values.Pid.{Pid}
use Rattle.sdl_signal.specs.declared.values.Pid.TheVariants as pid
use Rattle.sdl_instances_log.specs.declared.event.Done.{Done}
use Rattle.sdl_instances_log.specs.declared.event.Done.TheVariants as done
use Rattle.sdl_instances_log.specs.declared.event.Event.{Event}
use Rattle.sdl_instances_log.specs.declared.event.Event.TheVariants as event
use Rattle.sdl_chart_page.specs.declared.page.Row.{Row}
use Rattle.sdl_chart_text.specs.Rows.{gathered_from}
use Rattle.sdl_chart_msc.specs.declared.places.Place.{Place}
use Rattle.sdl_chart_msc.specs.Messages.{logged_at}

-- a place of an instance: nothing else has one
abbrev pub place_of : Bool → ℕ → Pid → List Place
place_of acts row pid.Null = []
place_of acts row pid.Env = []
place_of acts row (pid.Inst set serial) = record { set = set.0; serial = serial; row = row; acts = acts } ∷ []

abbrev pub made_in : ℕ → Done → List Place
made_in row (done.Sent i) = []
made_in row (done.NoRoute o x) = []
made_in row (done.Made p) = place_of false row p

-- The places of an event: of the instance whose port an item entered, of the one whose turn it is, and of those that were made in it.
-- Only the one whose turn it is acts there.
abbrev pub places_of_event : ℕ → Event → List Place
places_of_event row (event.Entered i p) = place_of false row p
places_of_event row (event.Discarded i c) = []
places_of_event row (event.Turn p t f step did stopped) = place_of true row p ++ flat_map (made_in row) did.items

-- the places of a row, which has this number
abbrev pub places_at : List (List Event) → ℕ → Row → List Place
places_at logs n r = unwrap_or (option_map (places_of_event n) (logged_at logs r)) []

-- the places are of one instance
abbrev pub is_same : Place → Place → Bool
is_same x y = (x.set == y.set) && (x.serial == y.serial)

-- by set, by number in it, and by row
abbrev pub place_cmp : Place → Place → Ordering
place_cmp x y = ordering_then (nat_cmp x.set y.set) (ordering_then (nat_cmp x.serial y.serial) (ordering_then (nat_cmp x.row y.row) (bool_cmp x.acts y.acts)))

-- They are the places of all rows, each once: instances by set and number, and of each its rows from the top.
pub record ArePlacesOf (logs : List (List Event)) (rows : List Row) (places : List Place) : Type 0 where
  pub each : IsPermutation (gathered_from (places_at logs) 0 rows) places
  pub sorted : IsSorted place_cmp places
