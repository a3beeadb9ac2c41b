use Rattle.std.proofs.Common.{◌≡◌, drop}
use Rattle.sdl_forward_opening.specs.Puts.{is_among}
use Rattle.sdl_forward_opening.proofs.givers.is_among.Given as goal

abbrev pub invariant-loop-giver : goal.invariant-loop-giver
invariant-loop-giver l = is_among (drop l.giver-index l.givers) l.worker ≡ is_among l.givers l.worker
