-- Marks of delaying paths.
use Rattle.std.specs.Prelude.{◌≡◌, ◌<◌, ◌≤◌, List, [], false, if◌then◌else◌}
use Rattle.std.specs.Int.{bit_at}
use Rattle.sdl_signal.specs.declared.values.Item.{Item}
use Rattle.sdl_routes.specs.declared.route.Hop.{Hop}
use Rattle.sdl_routes.specs.declared.route.Station.{Station}
use Rattle.sdl_routes.specs.declared.route.Station.TheVariants.{Line}
use Rattle.sdl_forward.specs.declared.busy.Busy.{Busy}
use Rattle.sdl_forward.specs.Boards.{waiting}

-- the path has no mark
abbrev pub IsClear : Busy → Hop → Type 0
IsClear busy h =
    (h.channel.0 < 64 → bit_at (if h.back then busy.back else busy.forth) h.channel.0 ≡ 0)
    × (64 ≤ h.channel.0 → busy.further ≡ false)

-- at each path without a mark nothing waits
abbrev pub ShowsAllBusy : Busy → List (Station × List Item) → Type 0
ShowsAllBusy busy board = (h : Hop) → IsClear busy h → waiting board (Line h) ≡ []
