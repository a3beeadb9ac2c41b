-- The order along each route: what a run shows at a moment at which no step is under way, and what holds of it.
-- (This project's own, of Z.101's channels: a delaying path hands on its signals in order, and none is lost or made.)
use Rattle.std.specs.Prelude.{ℕ, ◌==◌, List, ◌++◌, reverse, ◌≡◌}
use Rattle.std.specs.List.{filter, flat_map, AllByRecursion}
use Rattle.sdl_signal.specs.declared.values.Item.{Item}
use Rattle.sdl_routes.specs.declared.route.Station.{Station}
use Rattle.sdl_forward_opening.specs.declared.worker.Worker.{Worker}
use Rattle.sdl_run_outcome.specs.Stations.{Ways, Leads, IsAgent, Among, place, taker}

-- what each worker sent, what arrived at it, what it keeps untreated and what it has yet to put; what rests at each station
pub record Books : Type 0 where
  pub sent : Worker → List Item
  pub arrived : Worker → List Item
  pub kept : Worker → List Item
  pub outgoing : Worker → List Item
  pub rest : Station → List Item

-- the items of route r
abbrev pub of_route : ℕ → List Item → List Item
of_route r xs = filter (λ (i : Item). i.route.0 == r) xs

-- what was output along r
abbrev pub outs : Ways → Books → ℕ → List Item
outs t b r = of_route r (b.sent (t.start r))

-- what arrived at its end
abbrev pub came : Ways → Books → ℕ → List Item
came t b r = of_route r (b.arrived (t.finish r))

-- at one station: what its taker keeps, then what is in its queue
abbrev pub standing : Books → Station → List Item
standing b s = b.kept (taker s) ++ b.rest s

-- what is still in its channels: at each station, from the last to the first, and then in the sender's hand
abbrev pub left : Ways → Books → ℕ → List Item
left t b r = flat_map (λ s. of_route r (standing b s)) (reverse (t.stations r)) ++ of_route r (b.outgoing (t.start r))

-- what holds when all threads are joined, and after each serial step
pub record InOrder (t : Ways) (b : Books) : Type 0 where
  -- the signals output along each route are, in order, those that arrived and then those still in its channels
  pub in_order : (r : ℕ) → Leads t r → outs t b r ≡ came t b r ++ left t b r
  -- what waits at a station is on a route through it
  pub in_place : (s : Station) → AllByRecursion (λ (i : Item). Among s (t.stations i.route.0)) (standing b s)
  -- and so is what arrived
  pub let_in : (w : Worker) → IsAgent w → AllByRecursion (λ (i : Item). Among (place w) (t.stations i.route.0)) (b.arrived w)
  -- what is yet to be put starts there
  pub leaving : (w : Worker) → IsAgent w → AllByRecursion (λ (i : Item). t.start i.route.0 ≡ w) (b.outgoing w)

-- what arrived at an agent came along a route that ends there
abbrev pub NoOther : Ways → Books → Type 0
NoOther t b = (w : Worker) → IsAgent w → AllByRecursion (λ (i : Item). Leads t i.route.0 × (t.finish i.route.0 ≡ w)) (b.arrived w)
