-- Workers, the stations that they take from, and the way of a route through the stations. A delaying path is a queue of
-- its own (Z.101, channels); inlets and the outlet are this project's own.
use Rattle.std.specs.Prelude.{◌≡◌, ◌⊎◌, ℕ, zero, suc, ◌+◌, Bool, true, false, if◌then◌else◌, ◌==◌, List, [], ◌∷◌, ◌++◌, map, length, Option, Some, None, slice_get}
use Rattle.sdl_signal.specs.declared.ids.SetId.{SetId}
use Rattle.sdl_signal.specs.declared.ids.SignalId.{SignalId}
use Rattle.sdl_structure_parts.specs.declared.parts.Channel.{Channel}
use Rattle.sdl_structure_parts.specs.Structure.{Structure, set_at}
use Rattle.sdl_routes.specs.declared.route.Hop.{Hop}
use Rattle.sdl_routes.specs.declared.route.TableRow.{TableRow}
use Rattle.sdl_routes.specs.declared.route.Source.{Source}
use Rattle.sdl_routes.specs.declared.route.Source.TheVariants as source
use Rattle.sdl_routes.specs.declared.route.EndPoint.{EndPoint}
use Rattle.sdl_routes.specs.declared.route.EndPoint.TheVariants as ends
use Rattle.sdl_routes.specs.declared.route.Station.{Station}
use Rattle.sdl_routes.specs.declared.route.Station.TheVariants.{Line, Inlet, Outlet}
use Rattle.sdl_forward_ends.specs.Marks.{mark}
use Rattle.sdl_forward_ends.specs.Stations.{same_hop}
pub use Rattle.sdl_forward_ends.specs.Stations.{station_behind}
use Rattle.sdl_forward_opening.specs.declared.worker.Worker.{Worker}
use Rattle.sdl_forward_opening.specs.declared.worker.Worker.TheVariants.{Block, Environment, Forwarder}

abbrev pub same_worker : Worker → Worker → Bool
same_worker (Block b) (Block c) = b.0 == c.0
same_worker Environment Environment = true
same_worker (Forwarder h) (Forwarder k) = same_hop h k
same_worker _ _ = false

-- the worker that takes from a station
abbrev pub taker : Station → Worker
taker (Line h) = Forwarder h
taker (Inlet b) = Block b
taker Outlet = Environment

-- the station that a worker takes from
abbrev pub place : Worker → Station
place (Block b) = Inlet b
place Environment = Outlet
place (Forwarder h) = Line h

-- the mark of a worker: that of the station that it takes from
abbrev pub mark_at : Worker → ℕ
mark_at w = mark (place w)

-- a worker that sends and receives: a block or the environment
abbrev pub IsAgent : Worker → Type 0
IsAgent (Block b) = Unit {0}
IsAgent Environment = Unit {0}
IsAgent (Forwarder h) = ⊥

-- for each route, by its number: the worker where it starts, its stations in order, the worker where it ends
pub record Ways : Type 0 where
  pub start : ℕ → Worker
  pub stations : ℕ → List Station
  pub finish : ℕ → Worker

abbrev pub first : List Station → Option Station
first ss = slice_get ss 0

-- where a worker brings an item of route r: a forwarder to the station after its own, another to the first
abbrev pub next : Ways → Worker → ℕ → Option Station
next t (Block b) r = first (t.stations r)
next t Environment r = first (t.stations r)
next t (Forwarder h) r = station_behind (Line h) (t.stations r)

abbrev pub Among : {X : Type 0} → X → List X → Type 0
Among s [] = ⊥
Among s (x ∷ xs) = (s ≡ x) ⊎ Among s xs

-- the blocks from n on, the least first
abbrev pub blocks_from : ℕ → ℕ → List Worker
blocks_from n zero = []
blocks_from n (suc k) = Block (record { 0 = n }) ∷ blocks_from (n + 1) k

-- a path of the n-th channel, where it carries a signal
abbrev pub delaying_path : ℕ → Bool → List SignalId → List Hop
delaying_path n back [] = []
delaying_path n back (x ∷ xs) = record { channel = record { 0 = n }; back = back } ∷ []

-- the delaying paths of channels, which count from n on, that carry a signal: by channel, forth before back
abbrev pub delaying_from : ℕ → List Channel → List Hop
delaying_from n [] = []
delaying_from n (c ∷ more) =
    (if c.nodelay then [] else delaying_path n false c.forth.items ++ delaying_path n true c.back.items) ++ delaying_from (n + 1) more

-- the workers of a structure: the blocks by number, the environment, a forwarder for each delaying path that carries a signal
abbrev pub workers_in : Structure → List Worker
workers_in s = blocks_from 0 (length s.blocks) ++ Environment ∷ map Forwarder (delaying_from 0 s.channels)

-- the worker of a set: its block
abbrev pub worker_of_set : Structure → SetId → Worker
worker_of_set s set = elim (set_at s set) [ None ↦ Environment | Some d ↦ Block d.block ]

-- the worker where a route starts, and the one where it ends
abbrev pub starter : Structure → Source → Worker
starter s (source.Set t) = worker_of_set s t
starter s (source.Gate g) = Environment

abbrev pub finisher : Structure → EndPoint → Worker
finisher s (ends.Set t) = worker_of_set s t
finisher s (ends.Environment g) = Environment

-- the way of each route
abbrev pub ways_in : Structure → List TableRow → Ways
ways_in s rows =
    record {
      start = λ r. elim (slice_get rows r) [ None ↦ Environment | Some row ↦ starter s row.source ];
      stations = λ r. elim (slice_get rows r) [ None ↦ [] | Some row ↦ row.route.stations.items ];
      finish = λ r. elim (slice_get rows r) [ None ↦ Environment | Some row ↦ finisher s row.route.end ];
    }
