use Rattle.std.proofs.Common.{take}
use Rattle.sdl_forward.specs.Boards.{lists_of}
use Rattle.sdl_forward.specs.Busy.{ShowsAllBusy}
use Rattle.sdl_forward.proofs.busy.Busy.of.Given as goal

abbrev pub invariant-loop-station : goal.invariant-loop-station
invariant-loop-station l = ShowsAllBusy l.busy (lists_of (take l.station-index l.rests))
