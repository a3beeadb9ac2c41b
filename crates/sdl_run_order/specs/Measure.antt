-- How much is left to do at most: each step that does something lowers it. (This project's own.)
use Rattle.std.specs.Prelude.{ℕ, suc, ◌+◌, ◌-◌, ◌*◌, cond, List, [], ◌∷◌, Some, None, length, slice_get, sum_by}
use Rattle.sdl_signal.specs.declared.values.Item.{Item}
use Rattle.sdl_routes.specs.declared.route.Station.{Station}
use Rattle.sdl_instances.specs.Run.{turns}
use Rattle.sdl_forward.specs.Boards.{same_station}
use Rattle.sdl_forward_opening.specs.declared.worker.Worker.{Worker}
use Rattle.sdl_forward_opening.specs.declared.worker.Worker.TheVariants.{Block, Environment, Forwarder}
use Rattle.sdl_run_outcome.specs.Stations.{Ways, place}
use Rattle.sdl_run_outcome.specs.Books.{standing}
use Rattle.sdl_run_outcome.specs.Plan.{Plan, ways_of, workers_of}
use Rattle.sdl_signal.specs.Environment.{most_lines}
use Rattle.sdl_run_outcome.specs.EnvironmentWork.{EnvWorking}
use Rattle.sdl_block_hand.specs.Work.{Working}
use Rattle.sdl_run_order.specs.Driver.{Site, site_books}

-- how many stations of the list there are from s on
abbrev pub stations_from : Station → List Station → ℕ
stations_from s [] = 0
stations_from s (x ∷ xs) = cond (same_station x s) (suc (length xs)) (stations_from s xs)

-- how many stations the items at s have still to leave
abbrev pub to_go : Ways → Station → List Item → ℕ
to_go t s items = sum_by (λ (i : Item). stations_from s (t.stations i.route.0)) items

-- an item in hand has one step more before it
abbrev pub to_go_out : Ways → List Item → ℕ
to_go_out t items = sum_by (λ (i : Item). length (t.stations i.route.0) + 1) items

-- the lines that the environment may still read, and the end after them
abbrev pub lines_left : EnvWorking → ℕ
lines_left w = elim w.ended [ None ↦ (most_lines - w.reading.carried) + 1 | Some end ↦ 0 ]

-- the turns that a block may still make, and the readings of the environment
abbrev pub turns_left : ℕ → List Working → EnvWorking → Worker → ℕ
turns_left budget ws env (Block b) = elim (slice_get ws b.0) [ None ↦ 0 | Some w ↦ budget - turns w.core.log ]
turns_left budget ws env Environment = lines_left env
turns_left budget ws env (Forwarder h) = 0

-- What one worker has before it. A turn sends at most eight items, of at most ten stations each, which is 88 steps: so a
-- turn that may still be made counts 89. A line sends at most one item, and counts as much.
abbrev pub load : Plan → Site → Worker → ℕ
load plan site w =
    to_go (ways_of plan) (place w) (standing (site_books site) (place w))
    + to_go_out (ways_of plan) ((site_books site).outgoing w)
    + 89 * turns_left plan.budget site.blocks site.environment w

abbrev pub work_left : Plan → Site → ℕ
work_left plan site = sum_by (load plan site) (workers_of plan)
