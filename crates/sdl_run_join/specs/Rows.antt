-- Two blocks that put into one queue.
use Rattle.std.specs.Prelude.{ℕ, zero, suc, List, [], ◌∷◌, Some, None}
use Rattle.sdl_signal.specs.declared.values.Item.{Item}
use Rattle.sdl_routes.specs.declared.route.Station.TheVariants.{Outlet}
use Rattle.sdl_queue.specs.declared.rule.Tagged.{Tagged}
use Rattle.sdl_queue.specs.Ends.{OfQueue, Account}
use Rattle.sdl_forward_ends.specs.Ends.{WorkerEnds, no_ends}
use Rattle.sdl_forward_opening.specs.declared.worker.Worker.{Worker}
use Rattle.sdl_forward_opening.specs.declared.worker.Worker.TheVariants.{Block, Environment, Forwarder}

abbrev pub tagged : ℕ → Item → Tagged
tagged n i = record { feeder = n; item = i; pad = 0; more_pad = 0 }

-- a feed of this number at the outlet, where this item was put
abbrev pub feed_of : ℕ → Item → WorkerEnds
feed_of n i = record { tap = None; feeds = (Outlet, record { opening = OfQueue (0, 0); number = n; put = i ∷ []; backlog = [] }) ∷ [] }

abbrev pub block_ends : Item → Item → ℕ → WorkerEnds
block_ends i j zero = feed_of 0 i
block_ends i j (suc zero) = feed_of 1 j
block_ends i j (suc (suc n)) = no_ends

-- block 0 put i at the outlet, block 1 put j there, and the environment took j
abbrev pub two_feeders : Item → Item → Worker → WorkerEnds
two_feeders i j (Block b) = block_ends i j b.0
two_feeders i j Environment = record { tap = Some (Outlet, record { opening = OfQueue (0, 0); feeders = 2; taken = tagged 1 j ∷ [] }); feeds = [] }
two_feeders i j (Forwarder h) = no_ends

-- the account where j was taken and this is left
abbrev pub with_left : Item → List Tagged → Account
with_left j left = record { feeders = 2; puts = []; taken = tagged 1 j ∷ []; left = left }
