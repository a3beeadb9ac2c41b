-- What the chart of a part of a run shows. (This project's own.)
use Rattle.std.specs.Prelude.{◌≡◌, ◌≢◌, ℕ, ◌-◌, ◌<◌, ◌≤◌, nat_lt, Bool, true, false, List, [], ◌∷◌, length, map, filter, All, Any, Option, None, Some, if◌then◌else◌, IsSomeAnd, slice_get, slice_range}
use Rattle.std.specs.List.{range_with_len, AllZip}
use Rattle.sdl_signal.specs.declared.values.Origin.{Origin}
use Rattle.sdl_chart_page.specs.declared.page.Row.{Row}
use Rattle.sdl_chart_page.specs.declared.page.Spot.{Spot}
use Rattle.sdl_instances_log.specs.declared.event.Event.{Event as Logged}
use Rattle.sdl_chart_page.specs.declared.lists.Lists.{Lists}
use Rattle.sdl_chart_page.specs.Pages.{Sheet, spot_at}
use Rattle.sdl_chart_drawing.specs.Traffic.{outputs_of, arrivals_of}
use Rattle.sdl_chart_drawing.specs.declared.wanted.Wanted.{Wanted}
use Rattle.sdl_chart_drawing.specs.declared.traffic.Output.{Output}
use Rattle.sdl_chart_drawing.specs.declared.traffic.Arrival.{Arrival}
use Rattle.sdl_chart_drawing.specs.declared.shapes.Drawing.{Drawing}
use Rattle.sdl_chart_drawing.specs.declared.shapes.Event.{Event}
use Rattle.sdl_chart_drawing.specs.declared.shapes.Message.{Message}
use Rattle.sdl_chart_drawing.specs.declared.shapes.Tip.{Tip}
use Rattle.sdl_chart_drawing.specs.declared.shapes.Tip.TheVariants as tip

-- the output that a message is of
abbrev pub output_drawn : Message → Output
output_drawn m = record { row = m.from; origin = m.origin }

-- An item comes in: it arrives in the part of the page from one row to before another, and was output above that part.
abbrev pub is_above : ℕ → Option Spot → Bool
is_above first None = false
is_above first (Some s) = nat_lt s.row first

abbrev pub comes_in : (Origin → Option Spot) → ℕ → ℕ → Arrival → Bool
comes_in spot first past a = if nat_lt a.row first then false else if nat_lt a.row past then is_above first (spot a.origin) else false

-- a message is of an item that comes in: the row of its output, and of its arrival
abbrev pub IsEntry : (Origin → Option Spot) → Message → Arrival → Type 0
IsEntry spot m a = (m.origin ≡ a.origin) × IsSomeAnd m.to (λ n. n ≡ a.row) × IsSomeAnd (spot m.origin) (λ s. s.row ≡ m.from)

-- An arrow's head is where the item enters a port or the environment, and a filled circle where it is discarded. A message may be hidden
-- where not all sets are kept.
abbrev pub HasTip : Bool → Bool → Tip → Type 0
HasTip hides discarded tip.Arrow = discarded ≡ false
HasTip hides discarded tip.Lost = discarded ≡ true
HasTip hides discarded tip.Later = ⊥
HasTip hides discarded tip.Hidden = hides ≡ true

-- The row is the arrival of the message's item. Or the item does not arrive in the part: then a filled circle says that it never arrives,
-- and an open one that it arrives below.
unfoldable pub IsItsArrival : Bool → Message → ℕ → Arrival → Type 0
IsItsArrival hides m n a = (a.row ≡ n) × (a.origin ≡ m.origin) × HasTip hides a.discarded m.tip

unfoldable pub ArrivesBelow : ℕ → Message → Arrival → Type 0
ArrivesBelow past m a = a.origin ≡ m.origin → past ≤ a.row

abbrev pub StaysAs : ℕ → Bool → List Arrival → Message → Tip → Type 0
StaysAs past hides arrivals m tip.Arrow = ⊥
StaysAs past hides arrivals m tip.Lost = All (λ a. a.origin ≢ m.origin) arrivals
StaysAs past hides arrivals m tip.Later = Any (λ a. (a.origin ≡ m.origin) × (past ≤ a.row)) arrivals
StaysAs past hides arrivals m tip.Hidden = hides ≡ true

abbrev pub Arrives : ℕ → Bool → List Arrival → Message → Option ℕ → Type 0
Arrives past hides arrivals m None = All (ArrivesBelow past m) arrivals × StaysAs past hides arrivals m m.tip
Arrives past hides arrivals m (Some n) = (n < past) × Any (IsItsArrival hides m n) arrivals

-- A message begins on the lifeline of its output, at that event or below. It ends at its arrival, and does not go upward. The events are
-- those of the rows from the first on.
unfoldable pub BeginsAt : Message → Event → Type 0
BeginsAt m e = (e.row ≡ m.from) × (e.at.x ≡ m.tail.x) × (e.at.y ≤ m.tail.y)

unfoldable pub Begins : ℕ → List Event → Message → Type 0
Begins first events m = IsSomeAnd (slice_get events (m.from - first)) (BeginsAt m)

unfoldable pub EndsAt : Message → ℕ → Event → Type 0
EndsAt m n e = (e.row ≡ n) × (e.at.x ≡ m.head.x) × (e.at.y ≡ m.head.y)

abbrev pub Ends : ℕ → List Event → Message → Option ℕ → Type 0
Ends first events m None = Unit {0}
Ends first events m (Some n) = IsSomeAnd (slice_get events (n - first)) (EndsAt m n)

abbrev pub HasItsEnd : ℕ → ℕ → Bool → List Arrival → List Event → Message → Type 0
HasItsEnd first past hides arrivals events m =
    Arrives past hides arrivals m m.to × Ends first events m m.to × (m.tail.y ≤ m.head.y)

-- on the picture the events of each list stand in their order: none above one before it
unfoldable pub IsBelow : ℕ → ℕ → Row → Event → Type 0
IsBelow list y r e = r.list ≡ list → y ≤ e.at.y

abbrev pub AreBelow : ℕ → ℕ → List Row → List Event → Type 0
AreBelow list y [] es = Unit {0}
AreBelow list y (r ∷ rs) [] = Unit {0}
AreBelow list y (r ∷ rs) (e ∷ es) = IsBelow list y r e × AreBelow list y rs es

abbrev pub AreInOrder : List Row → List Event → Type 0
AreInOrder [] es = Unit {0}
AreInOrder (r ∷ rs) [] = Unit {0}
AreInOrder (r ∷ rs) (e ∷ es) = AreBelow r.list e.at.y rs es × AreInOrder rs es

-- Of a part of a page: where each item was output, from which row it is and to before which, all arrivals of the page, the outputs and
-- the rows of the part, and whether messages may be hidden.
pub record Part : Type 0 where
  pub spot : Origin → Option Spot
  pub first : ℕ
  pub past : ℕ
  pub arrivals : List Arrival
  pub outputs : List Output
  pub rows : List Row
  pub hides : Bool

-- the part of a page that is wanted
abbrev pub part_of : {K : Type 0} → (K → List Logged) → Lists K → Sheet → Wanted → Part
part_of events l p w =
    record {
      spot = spot_at p;
      first = w.first;
      past = w.past;
      arrivals = arrivals_of events l 0 p.rows;
      outputs = outputs_of events l w.first (slice_range p.rows w.first w.past);
      rows = slice_range p.rows w.first w.past;
      hides = nat_lt 0 (length w.only.now);
    }

-- The chart of a part of a run. There is an event for each row of the part, and a message for each output of an item there, in their
-- order; and a message for each item that comes in. Each message joins one output with its one arrival.
pub record IsChartOf (p : Part) (d : Drawing) : Type 0 where
  pub events : map (λ (e : Event). e.row) d.events.items ≡ range_with_len p.first (length p.rows)
  pub in_order : AreInOrder p.rows d.events.items
  pub messages : map output_drawn d.messages.items ≡ p.outputs
  pub incoming : AllZip (IsEntry p.spot) d.incoming.items (filter (comes_in p.spot p.first p.past) p.arrivals)
  pub begin : All (Begins p.first d.events.items) d.messages.items
  pub ends : All (HasItsEnd p.first p.past p.hides p.arrivals d.events.items) d.messages.items
  pub incoming_ends : All (HasItsEnd p.first p.past p.hides p.arrivals d.events.items) d.incoming.items
