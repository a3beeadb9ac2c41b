-- Queues of one thread in a list of queues. (This project's own.)
use Rattle.std.specs.Prelude.{◌≡◌, ℕ, List, [], ◌∷◌, Some, slice_get, ⊤}
use Rattle.sdl_signal.specs.declared.values.Item.{Item}
use Rattle.sdl_routes.specs.declared.route.Station.{Station}
use Rattle.sdl_queue.specs.declared.rest.Rest.{Rest}
use Rattle.sdl_queue.specs.declared.rest.Rest.TheVariants.{Serial, Ruled, Ring}

-- each rest of the list is a queue of one thread
abbrev pub AreSerial : List (Station × Rest) → Type 0
AreSerial rests = (k : ℕ) (entry : Station × Rest) → slice_get rests k ≡ Some entry → (queue : List Item) × (entry.1 ≡ Serial queue)

-- the queue is not one of one thread
abbrev pub IsApart : Rest → Type 0
IsApart (Serial queue) = ⊥
IsApart (Ruled account) = ⊤
IsApart (Ring account) = ⊤

-- the first of the queues that is not one of one thread is that of this station
abbrev pub IsFirstRuled : List (Station × Rest) → Station → Type 0
IsFirstRuled [] s = ⊥
IsFirstRuled (r ∷ rests) s = elim r.1 [ Serial queue ↦ IsFirstRuled rests s | Ruled account ↦ r.0 ≡ s | Ring account ↦ r.0 ≡ s ]
