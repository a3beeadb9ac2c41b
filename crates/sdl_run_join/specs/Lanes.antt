-- The queues that were put together again, beside the ends of the workers. (This project's own.)
use Rattle.std.specs.Prelude.{◌≡◌, ℕ, List, [], ◌∷◌, ◌++◌, Some, if◌then◌else◌}
use Rattle.std.specs.List.{AllByRecursion}
use Rattle.sdl_routes.specs.declared.route.Station.{Station}
use Rattle.sdl_queue.specs.declared.rule.Tagged.{Tagged}
use Rattle.sdl_queue.specs.DelayLine.{items_by}
use Rattle.sdl_queue.specs.declared.rest.Rest.{Rest}
use Rattle.sdl_queue.specs.declared.rest.Rest.TheVariants.{Serial, Ruled, Ring}
use Rattle.sdl_queue.specs.Ends.{Account, items_of}
use Rattle.sdl_queue.specs.Rest.{ring_account}
use Rattle.sdl_forward_ends.specs.Stations.{same_station}
use Rattle.sdl_forward_ends.specs.Ends.{WorkerEnds, put_at, number_at, taken_by}
use Rattle.sdl_forward_opening.specs.declared.worker.Worker.{Worker}
use Rattle.sdl_forward_opening.specs.Workers.{taker}

-- The queue of a station, beside the ends of the workers: what was taken is what its taker took; what a worker put there is its
-- things among those taken, and then its things among those left; and each thing bears the number of a worker's feed there.
pub record IsLane (ends : Worker → WorkerEnds) (s : Station) (a : Account) : Type 0 where
  pub tapped : items_of a.taken ≡ taken_by (ends (taker s))
  pub fed : (w : Worker) (n : ℕ) → number_at (ends w) s ≡ Some n → put_at (ends w) s ≡ items_by n a.taken ++ items_by n a.left
  pub by : AllByRecursion (λ (x : Tagged). (w : Worker) × (number_at (ends w) s ≡ Some x.feeder)) (a.taken ++ a.left)

-- of a queue with no feeder
abbrev pub no_account : Account
no_account = record { feeders = 0; puts = []; taken = []; left = [] }

abbrev pub account_in : Rest → Account
account_in (Ruled a) = a
account_in (Ring r) = ring_account r
account_in (Serial items) = no_account

-- the account of a station; that of no queue where there is none
abbrev pub account_at : List (Station × Rest) → Station → Account
account_at [] s = no_account
account_at (r ∷ rests) s = if same_station r.0 s then account_in r.1 else account_at rests s
