use Rattle.std.proofs.Common.{length}
use Rattle.sdl_transition_conformance.proofs.copies.+with_outputs.Given as goal

-- the outputs that are left
abbrev pub decreases-with_outputs : goal.decreases-with_outputs
decreases-with_outputs l = length l.outputs.now
