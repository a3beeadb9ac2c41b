-- The rows of a page, and what holds of them. (This project's own.)
use Rattle.std.specs.Prelude.{◌≡◌, ℕ, ◌+◌, ◌<◌, ◌≤◌, ◌==◌, ◌⊎◌, List, [], ◌∷◌, map, filter, length, Option, None, Some, IsSome, slice_get, slice_index_or}
use Rattle.std.specs.List.{range_with_len}
use Rattle.sdl_signal.specs.declared.values.Item.{Item}
use Rattle.sdl_signal.specs.declared.values.Origin.{Origin}
use Rattle.sdl_chart_page.specs.declared.page.Row.{Row}
use Rattle.sdl_chart_page.specs.declared.page.Spot.{Spot}
use Rattle.sdl_chart_page.specs.declared.page.Standing.{Standing}
use Rattle.sdl_chart_page.specs.declared.page.Standing.TheVariants as place
use Rattle.sdl_chart_page.specs.declared.lists.Seen.{Seen}
use Rattle.sdl_chart_page.specs.declared.lists.Seen.TheVariants as seen
use Rattle.sdl_chart_page.specs.Entries.{Entry, entry_at}
use Rattle.sdl_chart_page.specs.Origins.{value_at}

-- a page: its rows from the top, and what is noted of each output
pub record Sheet : Type 0 where
  pub rows : List Row
  pub places : List (List Standing)

-- where an output stands, by what is noted of it
abbrev pub spot_noted : Option Standing → Option Spot
spot_noted None = None
spot_noted (Some place.Ahead) = None
spot_noted (Some (place.Awaited l)) = None
spot_noted (Some (place.Stands s)) = Some s

abbrev pub noted_at : List (List Standing) → Origin → Option Spot
noted_at places o = spot_noted (value_at places o)

-- where the item of an output was output, as far as that is on the page
abbrev pub spot_at : Sheet → Origin → Option Spot
spot_at p o = noted_at p.places o

-- the numbers of a list's events that are on the page, from the top
abbrev pub events_of : ℕ → List Row → List ℕ
events_of l rows = map (λ (r : Row). r.number) (filter (λ (r : Row). r.list == l) rows)

-- of each list they are 0, 1, 2 and so on
abbrev pub AreInOrder : List Row → Type 0
AreInOrder rows = (l : ℕ) → events_of l rows ≡ range_with_len 0 (length (events_of l rows))

-- each row is an event of its list
abbrev pub AreEvents : List (List Entry) → List Row → Type 0
AreEvents lists rows = (n : ℕ) (r : Row) → slice_get rows n ≡ Some r → (e : Entry) × (entry_at lists r.list r.number ≡ Some e)

-- the spot of an output: the row whose event sends the item, and the item's place among those that are sent there
pub record IsSpot (lists : List (List Entry)) (rows : List Row) (o : Origin) (s : Spot) : Type 0 where
  pub row : Row
  pub entry : Entry
  pub item : Item
  pub stands : slice_get rows s.row ≡ Some row
  pub shows : entry_at lists row.list row.number ≡ Some entry
  pub sends : slice_get entry.sent s.among ≡ Some item
  pub same : item.origin ≡ o

-- the item of this origin is output above the row, at the spot that is noted of it
pub record IsOutputAbove (lists : List (List Entry)) (rows : List Row) (places : List (List Standing)) (n : ℕ) (o : Origin) : Type 0 where
  pub spot : Spot
  pub noted : noted_at places o ≡ Some spot
  pub above : spot.row < n
  pub is : IsSpot lists rows o spot

-- each item that arrives is output above
abbrev pub AreOutputAbove : List (List Entry) → List Row → List (List Standing) → Type 0
AreOutputAbove lists rows places =
    (n : ℕ) (r : Row) (e : Entry) (i : Item) → slice_get rows n ≡ Some r → entry_at lists r.list r.number ≡ Some e → e.arrived ≡ i ∷ []
    → IsOutputAbove lists rows places n i.origin

-- each event of each list stands there once, and in its order
abbrev pub AreWhole : List (List Entry) → List Row → Type 0
AreWhole lists rows = (l : ℕ) (es : List Entry) → slice_get lists l ≡ Some es → events_of l rows ≡ range_with_len 0 (length es)

-- of each item that is sent in a row it is noted where
abbrev pub AreNotedIn : List (List Entry) → List Row → List (List Standing) → Type 0
AreNotedIn lists rows places =
    (n k : ℕ) (r : Row) (e : Entry) (i : Item) → slice_get rows n ≡ Some r → entry_at lists r.list r.number ≡ Some e → slice_get e.sent k ≡ Some i
    → IsSome (noted_at places i.origin)

-- A page of the lists, as far as it comes.
pub record IsPageOf (lists : List (List Entry)) (p : Sheet) : Type 0 where
  pub in_order : AreInOrder p.rows
  pub events : AreEvents lists p.rows
  pub output_above : AreOutputAbove lists p.rows p.places
  pub spots : (o : Origin) (s : Spot) → spot_at p o ≡ Some s → IsSpot lists p.rows o s
  pub noted : AreNotedIn lists p.rows p.places

-- What holds while the page is made: so many events of each list are on it.
pub record IsUnderWay (lists : List (List Entry)) (rows : List Row) (next : List ℕ) (places : List (List Standing)) : Type 0 where
  pub counted : length next ≡ length lists
  pub in_order : (l : ℕ) → events_of l rows ≡ range_with_len 0 (slice_index_or next l 0)
  pub within : (l : ℕ) (es : List Entry) → slice_get lists l ≡ Some es → slice_index_or next l 0 ≤ length es
  pub events : AreEvents lists rows
  pub output_above : AreOutputAbove lists rows places
  pub spots : (o : Origin) (s : Spot) → noted_at places o ≡ Some s → IsSpot lists rows o s
  pub noted : AreNotedIn lists rows places

-- no event of a list is ahead
abbrev pub HasAll : List (List Entry) → List ℕ → Type 0
HasAll lists next = (l : ℕ) (es : List Entry) → slice_get lists l ≡ Some es → length es ≤ slice_index_or next l 0

-- the next event of a list is ahead
abbrev pub HasMore : List (List Entry) → List ℕ → Type 0
HasMore lists next = (l : ℕ) × (e : Entry) × (entry_at lists l (slice_index_or next l 0) ≡ Some e)

-- the item that arrives in the event, if one does, is output
abbrev pub HasCome : Entry → List (List Standing) → Type 0
HasCome e places = (i : Item) → e.arrived ≡ i ∷ [] → IsSome (noted_at places i.origin)

-- the list can't go on
abbrev pub IsStuck : List (List Entry) → List ℕ → List (List Standing) → ℕ → Type 0
IsStuck lists next places l = (e : Entry) → entry_at lists l (slice_index_or next l 0) ≡ Some e → HasCome e places → ⊥

abbrev pub AreStuck : List (List Entry) → List ℕ → List (List Standing) → Type 0
AreStuck lists next places = (l : ℕ) → IsStuck lists next places l

-- the spot is that of one of the items, which are sent in this row, the first of them at this place
pub record IsSpotAmong (row among : ℕ) (items : List Item) (o : Origin) (s : Spot) : Type 0 where
  pub index : ℕ
  pub item : Item
  pub in_row : s.row ≡ row
  pub at_place : s.among ≡ among + index
  pub sends : slice_get items index ≡ Some item
  pub same : item.origin ≡ o

-- what is noted stays
abbrev pub StayNoted : List (List Standing) → List (List Standing) → Type 0
StayNoted old new = (o : Origin) (s : Spot) → noted_at old o ≡ Some s → noted_at new o ≡ Some s

abbrev pub IsSameNoted : List (List Standing) → List (List Standing) → Type 0
IsSameNoted old new = StayNoted old new × ((o : Origin) (s : Spot) → noted_at new o ≡ Some s → noted_at old o ≡ Some s)

-- the item that arrives, if one does, is output: a list can go on with the event
abbrev pub IsDue : Seen → List (List Standing) → Type 0
IsDue (seen.Arrival i) places = IsSome (noted_at places i.now.origin)
IsDue (seen.Turn done) places = Unit {0}
IsDue (seen.Put o) places = Unit {0}

-- this spot of an output is noted, if any
pub record IsNoted (one : Origin) (spot : Spot) (old new : List (List Standing)) : Type 0 where
  pub stay : StayNoted old new
  pub came : (o : Origin) (s : Spot) → noted_at new o ≡ Some s → (noted_at old o ≡ Some s) ⊎ ((o ≡ one) × (s ≡ spot))
  pub own : IsSome (noted_at new one)

-- the items' spots are noted: what was noted stays, and what is new is one of them
pub record AreNoted (row among : ℕ) (items : List Item) (old new : List (List Standing)) : Type 0 where
  pub stay : StayNoted old new
  pub came : (o : Origin) (s : Spot) → noted_at new o ≡ Some s → (noted_at old o ≡ Some s) ⊎ IsSpotAmong row among items o s
  pub all : (k : ℕ) (i : Item) → slice_get items k ≡ Some i → IsSome (noted_at new i.origin)

-- this item is sent in an event of a list
pub record IsSentIn (lists : List (List Entry)) (i : Item) : Type 0 where
  pub list : ℕ
  pub number : ℕ
  pub entry : Entry
  pub index : ℕ
  pub at : entry_at lists list number ≡ Some entry
  pub sends : slice_get entry.sent index ≡ Some i

-- Each item that arrives is sent, and it has a lesser stamp than what is sent in its list from there on. So it is with the lists of
-- each run that has ended.
pub record AreOrderly (lists : List (List Entry)) : Type 0 where
  pub output : (l n : ℕ) (e : Entry) (i : Item) → entry_at lists l n ≡ Some e → e.arrived ≡ i ∷ [] → IsSentIn lists i
  pub later : (l m n k : ℕ) (e f : Entry) (i o : Item) → entry_at lists l m ≡ Some e → e.arrived ≡ i ∷ [] → m ≤ n
      → entry_at lists l n ≡ Some f → slice_get f.sent k ≡ Some o → i.stamp < o.stamp
