use Rattle.std.proofs.Common.{drop}
use Rattle.sdl_forward_opening.specs.Workers.{Among}
use Rattle.sdl_forward_opening.proofs.opening.place_of.Given as goal

abbrev pub invariant-loop-place : goal.invariant-loop-place
invariant-loop-place l = Among l.worker (drop l.place l.workers)
