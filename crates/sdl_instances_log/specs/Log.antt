-- What a block's log tells: the items that arrived and were sent, the turns, and how its outputs are numbered and stamped.
use Rattle.std.specs.Prelude.{◌≡◌, ℕ, ◌+◌, List, [], ◌∷◌, sum_by, max}
use Rattle.std.specs.List.{flat_map, AllByRecursion}
use Rattle.sdl_signal.specs.declared.values.Item.{Item}
use Rattle.sdl_signal.specs.declared.values.Origin.{Origin}
use Rattle.sdl_instances_log.specs.declared.event.Done.{Done}
use Rattle.sdl_instances_log.specs.declared.event.Done.TheVariants as done
use Rattle.sdl_instances_log.specs.declared.event.Event.{Event}
use Rattle.sdl_instances_log.specs.declared.event.Event.TheVariants as event

-- what an event did: the things done in its turn
abbrev pub done_in : Event → List Done
done_in (event.Turn p t frame step did stopped) = did.items
done_in (event.Entered i p) = []
done_in (event.Discarded i c) = []

-- the item that arrived
abbrev pub arrived_in : Event → List Item
arrived_in (event.Entered i p) = i ∷ []
arrived_in (event.Discarded i c) = i ∷ []
arrived_in (event.Turn p t frame step did stopped) = []

-- the item sent
abbrev pub sent_by : Done → List Item
sent_by (done.Sent i) = i ∷ []
sent_by (done.NoRoute origin id) = []
sent_by (done.Made p) = []

-- the origin of an output, with or without a route
abbrev pub origin_by : Done → List Origin
origin_by (done.Sent i) = i.origin ∷ []
origin_by (done.NoRoute origin id) = origin ∷ []
origin_by (done.Made p) = []

-- all that the log did, the items that arrived, those sent, and the origins of all outputs, each in the log's order
abbrev pub all_done : List Event → List Done
all_done log = flat_map done_in log

abbrev pub arrived : List Event → List Item
arrived log = flat_map arrived_in log

abbrev pub sent : List Event → List Item
sent log = flat_map sent_by (all_done log)

abbrev pub origins : List Event → List Origin
origins log = flat_map origin_by (all_done log)

-- the turns in the log
abbrev pub turn_in : Event → ℕ
turn_in (event.Turn p t frame step did stopped) = 1
turn_in (event.Entered i p) = 0
turn_in (event.Discarded i c) = 0

abbrev pub turns : List Event → ℕ
turns log = sum_by turn_in log

-- the least stamp from n on that is greater than those of all the items
abbrev pub above : ℕ → List Item → ℕ
above n [] = n
above n (i ∷ more) = above (max n (i.stamp + 1)) more

-- one more than the greatest stamp among the items, 0 where there are none
abbrev pub next_stamp : List Item → ℕ
next_stamp items = above 0 items

-- the outputs, with or without a route, have this worker, and the numbers n, n + 1, n + 2 and so on
abbrev pub IsNumbered : ℕ → ℕ → List Done → Type 0
IsNumbered worker n [] = Unit {0}
IsNumbered worker n (done.Sent i ∷ more) =
    (i.origin.worker ≡ worker) × (i.origin.number ≡ n) × IsNumbered worker (n + 1) more
IsNumbered worker n (done.NoRoute o id ∷ more) =
    (o.worker ≡ worker) × (o.number ≡ n) × IsNumbered worker (n + 1) more
IsNumbered worker n (done.Made p ∷ more) = IsNumbered worker n more

-- each item is sent with the least stamp from n on that is greater than those of all that arrived before it
abbrev pub IsStamped : ℕ → List Event → Type 0
IsStamped n [] = Unit {0}
IsStamped n (e ∷ more) =
    AllByRecursion (λ (i : Item). i.stamp ≡ n) (flat_map sent_by (done_in e)) × IsStamped (above n (arrived_in e)) more
