-- What the page reads of each event of a run's lists. (This project's own.)
use Rattle.std.specs.Prelude.{◌≡◌, ℕ, ◌≤◌, Bool, true, All, List, [], ◌∷◌, ◌++◌, map, flat_map, Option, option_and_then, slice_get, length, Some}
use Rattle.sdl_signal.specs.declared.values.Item.{Item}
use Rattle.sdl_instances_log.specs.declared.event.Event.{Event}
use Rattle.sdl_instances_log.specs.Log.{arrived_in, done_in, sent_by}
use Rattle.sdl_run_outcome.specs.declared.environment_output.EnvOut.{EnvOut}
use Rattle.sdl_run_outcome.specs.EnvironmentWork.{sent_of}
use Rattle.sdl_chart_page.specs.declared.lists.Lists.{Lists}
use Rattle.sdl_chart_page.specs.declared.lists.Seen.{Seen}
use Rattle.sdl_chart_page.specs.declared.lists.Seen.TheVariants as seen

-- the item that arrives in an event, where it is an arrival, and the items that are sent in it
pub record Entry : Type 0 where
  pub arrived : List Item
  pub sent : List Item

-- an event of a block, a receipt of the environment, and an output of it
abbrev pub entry_of_event : Event → Entry
entry_of_event e = record { arrived = arrived_in e; sent = flat_map sent_by (done_in e) }

abbrev pub entry_of_receipt : Item → Entry
entry_of_receipt i = record { arrived = i ∷ []; sent = [] }

abbrev pub entry_of_output : EnvOut → Entry
entry_of_output o = record { arrived = []; sent = sent_of o }

-- all lists in their order: the logs, the receipts, the outputs of the environment
abbrev pub entries : List (List Event) → List Item → List EnvOut → List (List Entry)
entries logs received put = map (map entry_of_event) logs ++ map entry_of_receipt received ∷ map entry_of_output put ∷ []

abbrev pub entries_of : {K : Type 0} → (K → List Event) → Lists K → List (List Entry)
entries_of events l = entries (map events l.logs.now) l.received.now l.put.now

-- the event of a number in a list, where there is one
abbrev pub entry_at : List (List Entry) → ℕ → ℕ → Option Entry
entry_at lists l n = option_and_then (λ list. slice_get list n) (slice_get lists l)

-- the list has no event of this number
abbrev pub IsPast : List (List Entry) → ℕ → ℕ → Type 0
IsPast lists l n = (es : List Entry) → slice_get lists l ≡ Some es → length es ≤ n

-- each log stores its events
abbrev pub AreStored : {K : Type 0} → (K → Bool) → List K → Type 0
AreStored stores logs = All (λ log. stores log ≡ true) logs

-- what is seen of an event
abbrev pub entry_seen : Seen → Entry
entry_seen (seen.Arrival i) = record { arrived = i.now ∷ []; sent = [] }
entry_seen (seen.Turn done) = record { arrived = []; sent = flat_map sent_by done.now }
entry_seen (seen.Put o) = record { arrived = []; sent = sent_of o.now }
