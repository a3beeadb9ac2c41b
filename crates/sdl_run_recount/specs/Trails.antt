-- What is known of the signals along each route. (This project's own.)
use Rattle.std.specs.Prelude.{◌≡◌, ℕ, zero, suc, List, [], ◌++◌, length}
use Rattle.sdl_signal.specs.declared.values.Item.{Item}
use Rattle.sdl_routes.specs.declared.route.TableRow.{TableRow}
use Rattle.sdl_routes.specs.declared.route.Station.{Station}
use Rattle.sdl_forward_opening.specs.declared.worker.Worker.{Worker}
use Rattle.sdl_forward_opening.specs.Workers.{place}
use Rattle.sdl_run_recount.specs.Sorted.{lists_in, items_at, Gains}
use Rattle.sdl_run_recount.specs.Along.{stands_at, gathered, laid}
use Rattle.sdl_run_recount.specs.declared.trail.Trail.{Trail}

-- the items that were output along a route, and those that were found there
abbrev pub output_on : Trail → ℕ → List Item
output_on t r = items_at (lists_in t.output) r

abbrev pub found_on : Trail → ℕ → List Item
found_on t r = items_at (lists_in t.found) r

-- it has lists for so many routes
pub record HasRoutes (routes : ℕ) (t : Trail) : Type 0 where
  pub output : length (lists_in t.output) ≡ routes
  pub found : length (lists_in t.found) ≡ routes

-- each route gains its own of these items, as output and as found
pub record Grows (output found : ℕ → List Item) (old new : Trail) : Type 0 where
  pub output_gains : Gains output (lists_in old.output) (lists_in new.output)
  pub found_gains : Gains found (lists_in old.found) (lists_in new.found)

-- what stands at the station at one place of a route: what its taker keeps, then what is in its queue
abbrev pub standing_at : List TableRow → List Worker → List (List Item) → List (Station × List Item) → ℕ → ℕ → List Item
standing_at rows workers kept rests k r =
    gathered (λ w. stands_at rows k (place w) r) workers kept ++ laid (λ s. stands_at rows k s r) rests

-- what stands at the stations at the places below n of a route, from the last of them to the first
abbrev pub standing_below : List TableRow → List Worker → List (List Item) → List (Station × List Item) → ℕ → ℕ → List Item
standing_below rows workers kept rests zero r = []
standing_below rows workers kept rests (suc n) r = standing_at rows workers kept rests n r ++ standing_below rows workers kept rests n r

-- what stands at the stations of a route, from the last to the first: it has ten at most
abbrev pub standing_along : List TableRow → List Worker → List (List Item) → List (Station × List Item) → ℕ → List Item
standing_along rows workers kept rests r = standing_below rows workers kept rests 10 r
