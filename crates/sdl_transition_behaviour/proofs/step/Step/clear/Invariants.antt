use Rattle.std.proofs.Common.{length}
use Rattle.sdl_transition_behaviour.proofs.step.Step.clear.Given as goal

abbrev pub decreases-loop : goal.decreases-loop
decreases-loop l = length l.self.actions.items
