use Rattle.std.proofs.Common.{length}
use Rattle.sdl_transition_conformance.proofs.broken.+first_of_actions.Given as goal

-- the actions that are left
abbrev pub decreases-first_of_actions : goal.decreases-first_of_actions
decreases-first_of_actions l = length l.actions.now
