use Rattle.sdl_forward.proofs.Places.{NoneBefore}
use Rattle.sdl_forward.proofs.hints.Hints.find.Given as goal

abbrev pub invariant-loop-place : goal.invariant-loop-place
invariant-loop-place g l = NoneBefore l.entries l.station l.place
