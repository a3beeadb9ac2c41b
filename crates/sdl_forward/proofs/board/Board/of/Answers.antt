use Rattle.std.proofs.Common.{List, subst}
use Rattle.sdl_routes.specs.declared.route.Station.{Station}
use Rattle.sdl_queue.specs.declared.rest.Rest.{Rest}
use Rattle.sdl_forward.specs.Boards.{lists_of}
use Rattle.sdl_forward.specs.Busy.{ShowsAllBusy}
use Rattle.sdl_forward.proofs.board.Board.of.Goals as goal

pub invariant_of-result : goal.invariant_of-result
invariant_of-result c = (c.requires.once, c.requires.serial, subst (λ (rests : List (Station × Rest)). ShowsAllBusy c.of-busy.result (lists_of rests)) c.as_slice-2.ensures.value c.of-busy.ensures)
