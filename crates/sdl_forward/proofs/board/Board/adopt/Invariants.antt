use Rattle.std.proofs.Common.{◌≡◌}
use Rattle.sdl_forward.specs.Boards.{lists_of}
use Rattle.sdl_forward.proofs.Adopted.{AreSerialBefore}
use Rattle.sdl_forward.proofs.board.Board.adopt.Given as goal

abbrev pub invariant-loop-place : goal.invariant-loop-place
invariant-loop-place g l = record {
  lists : lists_of l.rests.items ≡ lists_of l.fn.rests.items;
  serial : AreSerialBefore l.place l.rests.items;
}
