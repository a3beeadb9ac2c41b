use Rattle.std.proofs.Common.{◌≡◌, take, map}
use Rattle.sdl_forward_opening.specs.Puts.{is_among}
use Rattle.sdl_forward_opening.proofs.givers.marks_at.Given as goal

abbrev pub invariant-loop-worker : goal.invariant-loop-worker
invariant-loop-worker l = l.marks.items ≡ map (is_among l.givers.items) (take l.worker-index l.workers)
