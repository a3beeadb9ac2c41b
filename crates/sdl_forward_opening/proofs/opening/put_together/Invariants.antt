use Rattle.std.proofs.Common.{◌≡◌}
use Rattle.sdl_forward_opening.proofs.opening.put_together.Given as goal

abbrev pub invariant-loop-share : goal.invariant-loop-share
invariant-loop-share l = l.ends.items ≡ l.yielded
