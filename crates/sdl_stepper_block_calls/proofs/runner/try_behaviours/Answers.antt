use Rattle.std.proofs.lemmas.List.Elements.{All-from_recursion}
use Rattle.sdl_transition.specs.Transitions.{IsAllowedBehaviour}
use Rattle.sdl_stepper_block_calls.proofs.runner.try_behaviours.Goals as goal

pub bind-requires-clause-allowed : goal.bind-requires-clause-allowed
bind-requires-clause-allowed g c = All-from_recursion (λ b. IsAllowedBehaviour g.S.Agents.may b) c.args.behaviours.items c.requires.allowed
