-- The items of a run as messages: their numbers, and what became of them. (This project's own.)
use Rattle.std.specs.Prelude.{◌≡◌, ℕ, ◌+◌, ◌==◌, List, [], ◌∷◌, length, flat_map, replicate, Option, None, Some, if◌then◌else◌, option_map, option_and_then, slice_get, slice_set, slice_index_or}
use Rattle.sdl_signal.specs.declared.values.Item.{Item}
use Rattle.sdl_signal.specs.declared.values.Origin.{Origin}
use Rattle.sdl_signal.specs.declared.values.Pid.{Pid}
use Rattle.sdl_instances_log.specs.declared.event.Event.{Event}
use Rattle.sdl_instances_log.specs.declared.event.Event.TheVariants as event
use Rattle.sdl_instances_log.specs.declared.event.Trigger.{Trigger}
use Rattle.sdl_instances_log.specs.declared.event.Trigger.TheVariants as trigger
use Rattle.sdl_chart_page.specs.declared.page.Row.{Row}
use Rattle.sdl_chart_page.specs.Entries.{Entry, entry_at}
use Rattle.sdl_chart_page.specs.Pages.{Sheet, spot_at}
use Rattle.sdl_chart_msc.specs.declared.messages.Fate.{Fate}
use Rattle.sdl_chart_msc.specs.declared.messages.Fate.TheVariants as fate

-- the items that are sent in an event, and in the event of a row, and how many
abbrev pub event_items : Option Entry → List Item
event_items None = []
event_items (Some e) = e.sent

abbrev pub row_items : List (List Entry) → Row → List Item
row_items lists r = event_items (entry_at lists r.list r.number)

abbrev pub row_sends : List (List Entry) → Row → ℕ
row_sends lists r = length (row_items lists r)

-- for each row how many items are sent above it, where so many are sent above the first, and how many are sent in all
abbrev pub sent_above : (Row → ℕ) → ℕ → List Row → List ℕ
sent_above sends n [] = []
sent_above sends n (r ∷ rows) = n ∷ sent_above sends (n + sends r) rows

abbrev pub sent_after : (Row → ℕ) → ℕ → List Row → ℕ
sent_after sends n [] = n
sent_after sends n (r ∷ rows) = sent_after sends (n + sends r) rows

-- The number of an item's message. Messages count from 1, in the order in which the page has the outputs of their items: so many are
-- sent in the rows above, and so many before it in its own row. It is 0 where its output is not on the page.
abbrev pub number_by : Sheet → List ℕ → Origin → ℕ
number_by page above o = elim (spot_at page o) [ None ↦ 0 | Some s ↦ slice_index_or above s.row 0 + s.among + 1 ]

-- the event of a row that is one of a log
abbrev pub logged_at : List (List Event) → Row → Option Event
logged_at logs r = slice_get (slice_index_or logs r.list []) r.number

-- what is told of an item: by a turn that consumed it, by its entry into a port, and by its receipt
abbrev pub told_by_trigger : Pid → Trigger → Option (Origin × Fate)
told_by_trigger p trigger.Start = None
told_by_trigger p (trigger.Fire i) = Some (i.origin, fate.Consumed p)
told_by_trigger p (trigger.Implicit i) = Some (i.origin, fate.Consumed p)

abbrev pub told_by_event : Event → Option (Origin × Fate)
told_by_event (event.Entered i p) = Some (i.origin, fate.Entered p)
told_by_event (event.Discarded i c) = None
told_by_event (event.Turn p t f step did stopped) = told_by_trigger p t

abbrev pub told_by_receipt : Item → Origin × Fate
told_by_receipt i = (i.origin, fate.Received)

-- what the event of a row tells: a receipt, or one of a log
abbrev pub told_at : List (List Event) → List Item → Row → Option (Origin × Fate)
told_at logs received r =
    if r.list == length logs then option_map told_by_receipt (slice_get received r.number) else option_and_then told_by_event (logged_at logs r)

-- what became of each message, by its number, after the rows: what is told later is written over what was told before
abbrev pub settled : (Origin → ℕ) → List Fate → Option (Origin × Fate) → List Fate
settled number fates None = fates
settled number fates (Some t) = slice_set fates (number t.0) t.1

abbrev pub fates_after : (Row → Option (Origin × Fate)) → (Origin → ℕ) → List Fate → List Row → List Fate
fates_after tells number fates [] = fates
fates_after tells number fates (r ∷ rows) = fates_after tells number (settled number fates (tells r)) rows

-- the same of a page of these lists: at first each item is astray
abbrev pub above_in : List (List Entry) → Sheet → List ℕ
above_in lists page = sent_above (row_sends lists) 0 page.rows

abbrev pub fates_in : List (List Event) → List Item → List (List Entry) → Sheet → List Fate
fates_in logs received lists page =
    fates_after (told_at logs received) (number_by page (above_in lists page)) (replicate (sent_after (row_sends lists) 0 page.rows + 1) fate.Astray) page.rows

-- the number tells an output: of all items that are sent in the rows, in their order and counted from 1, the one of this number is of
-- this origin
pub record IsSentAs (lists : List (List Entry)) (rows : List Row) (n : ℕ) (o : Origin) : Type 0 where
  pub item : Item
  pub place : ℕ
  pub counted : n ≡ place + 1
  pub sent : slice_get (flat_map (row_items lists) rows) place ≡ Some item
  pub same : item.origin ≡ o
