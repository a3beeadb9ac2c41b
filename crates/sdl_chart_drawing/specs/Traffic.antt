-- Which items are output in the rows of a page, and which arrive there. (This project's own.)
use Rattle.std.specs.Prelude.{ℕ, ◌+◌, length, nat_lt, ◌==◌, false, true, List, [], ◌∷◌, ◌++◌, map, flat_map, Option, None, Some, if◌then◌else◌, option_map, option_and_then, unwrap_or, slice_get, slice_index_or}
use Rattle.sdl_signal.specs.declared.values.Item.{Item}
use Rattle.sdl_instances_log.specs.declared.event.Done.{Done}
use Rattle.sdl_instances_log.specs.declared.event.Done.TheVariants as done
use Rattle.sdl_instances_log.specs.declared.event.Event.{Event}
use Rattle.sdl_instances_log.specs.declared.event.Event.TheVariants as event
use Rattle.sdl_instances_log.specs.Log.{done_in}
use Rattle.sdl_run_outcome.specs.declared.environment_output.EnvOut.{EnvOut}
use Rattle.sdl_run_outcome.specs.declared.environment_output.EnvOut.TheVariants as env_out
use Rattle.sdl_chart_page.specs.declared.page.Row.{Row}
use Rattle.sdl_chart_page.specs.declared.lists.Lists.{Lists}
use Rattle.sdl_chart_drawing.specs.declared.traffic.Output.{Output}
use Rattle.sdl_chart_drawing.specs.declared.traffic.Arrival.{Arrival}

-- an arrival in a row: in a port or at the environment, or one that is discarded
abbrev pub entry_of : ℕ → Item → Arrival
entry_of n i = record { row = n; origin = i.origin; discarded = false }

abbrev pub discard_of : ℕ → Item → Arrival
discard_of n i = record { row = n; origin = i.origin; discarded = true }

abbrev pub arrival_in : ℕ → Event → Option Arrival
arrival_in n (event.Entered i p) = Some (entry_of n i)
arrival_in n (event.Discarded i c) = Some (discard_of n i)
arrival_in n (event.Turn p t f step did stopped) = None

-- the arrival of a row, where its event is one: in a log, or a receipt of the environment
abbrev pub arrival_at : List (List Event) → List Item → ℕ → Row → Option Arrival
arrival_at logs received n r =
    if nat_lt r.list (length logs) then option_and_then (arrival_in n) (slice_get (slice_index_or logs r.list []) r.number)
    else if r.list == length logs then option_map (entry_of n) (slice_get received r.number)
    else None

-- the outputs of items in a row: of an action, of an event, and of the environment
abbrev pub outputs_by : ℕ → Done → List Output
outputs_by n (done.Sent i) = record { row = n; origin = i.origin } ∷ []
outputs_by n (done.NoRoute o x) = []
outputs_by n (done.Made p) = []

abbrev pub outputs_in : ℕ → Event → List Output
outputs_in n e = flat_map (outputs_by n) (done_in e)

abbrev pub outputs_put : ℕ → EnvOut → List Output
outputs_put n (env_out.Sent i) = record { row = n; origin = i.origin } ∷ []
outputs_put n (env_out.NoRoute o line) = []

-- of the element at a place, where there is one
abbrev pub all_at : {X Y : Type 0} → (X → List Y) → List X → ℕ → List Y
all_at f xs n = unwrap_or (option_map f (slice_get xs n)) []

abbrev pub outputs_at : List (List Event) → List EnvOut → ℕ → Row → List Output
outputs_at logs put n r =
    if nat_lt r.list (length logs) then all_at (outputs_in n) (slice_index_or logs r.list []) r.number
    else if r.list == length logs then []
    else all_at (outputs_put n) put r.number

-- what the rows have, of which the first has this number
abbrev pub rows_from : {X : Type 0} → (ℕ → Row → List X) → ℕ → List Row → List X
rows_from f n [] = []
rows_from f n (r ∷ rows) = f n r ++ rows_from f (n + 1) rows

abbrev pub listed : {X : Type 0} → Option X → List X
listed None = []
listed (Some x) = x ∷ []

-- all outputs of items in the rows, and all arrivals
abbrev pub outputs_from : List (List Event) → List EnvOut → ℕ → List Row → List Output
outputs_from logs put n rows = rows_from (outputs_at logs put) n rows

abbrev pub arrivals_from : List (List Event) → List Item → ℕ → List Row → List Arrival
arrivals_from logs received n rows = rows_from (λ m r. listed (arrival_at logs received m r)) n rows

abbrev pub outputs_of : {K : Type 0} → (K → List Event) → Lists K → ℕ → List Row → List Output
outputs_of events l n rows = outputs_from (map events l.logs.now) l.put.now n rows

abbrev pub arrivals_of : {K : Type 0} → (K → List Event) → Lists K → ℕ → List Row → List Arrival
arrivals_of events l n rows = arrivals_from (map events l.logs.now) l.received.now n rows
