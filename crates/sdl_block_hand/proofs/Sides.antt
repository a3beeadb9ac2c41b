-- A board has all first stations of its routes.
use Rattle.std.proofs.Common.{◌≡◌, List, Some, slice_get, slice_index_or}
use Rattle.std.proofs.lemmas.Option.{option_and_then_some}
use Rattle.sdl_signal.specs.declared.values.Item.{Item}
use Rattle.sdl_routes.specs.declared.route.TableRow.{TableRow}
use Rattle.sdl_routes.specs.declared.route.Station.{Station}
use Rattle.sdl_forward.specs.Boards.{IsBoardOf, IsStationOf}
use Rattle.sdl_forward.specs.OnBoard.{Entries, on_board}
use Rattle.sdl_forward.proofs.Onward.{first_passed}
use Rattle.sdl_block_hand.specs.Work.{first_station}
use Rattle.sdl_block_hand.specs.PutsBy.{CanPutOut}

begins_on : (rows : List TableRow) (i : Item) (s : Station) → first_station rows i ≡ Some s → IsStationOf rows s
begins_on rows i s first = option_and_then_some (λ (row : TableRow). slice_get row.route.stations.items 0) (slice_get rows i.route.0) s first (λ row there here. first_passed rows i.route.0 row s there here)

pub board_ways : (rows : List TableRow) (board : Entries) (items : List Item) → IsBoardOf rows board → CanPutOut on_board rows board items
board_ways rows board items h = λ k i at s first. h.every s (begins_on rows (slice_index_or items k i) s first)
