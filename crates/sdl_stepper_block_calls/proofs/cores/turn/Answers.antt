use Rattle.std.proofs.Common.{ap, sym, subst}
use Rattle.sdl_transition.specs.Rules.{block_rules}
use Rattle.sdl_instances.specs.Calls.{TurnAnswers}
use Rattle.sdl_instances.specs.CoreOf.{CanFire, core_of}
use Rattle.sdl_instances.proofs.Systems.{sound_there}
use Rattle.sdl_stepper_block_calls.proofs.Again.{answers_again}
use Rattle.sdl_stepper_block_calls.proofs.cores.turn.Goals as goal

pub turn-requires-in-Err-clause-sound : goal.turn-requires-in-Err-clause-sound
turn-requires-in-Err-clause-sound g c =
    sound_there g.S.Agents.may _ _ c.args.routes.now _ _ c.in-Err.ensures.err (ap (λ p. block_rules p) c.turn.ensures.parts) c.requires.sound

pub turn-requires-in-Err-clause-parts : goal.turn-requires-in-Err-clause-parts
turn-requires-in-Err-clause-parts g c = subst (λ p. CanFire g.S.Agents.may p) (sym c.turn.ensures.parts) c.requires.parts

pub returns-in-Err-clause-answers : goal.returns-in-Err-clause-answers
returns-in-Err-clause-answers g c =
    answers_again (λ s k t. TurnAnswers g.S.Agents.may s c.args.pick k t (core_of c.turn-in-Err.new.self)) _ _ c.args.routes.now _ _ c.turn-in-Err.result c.in-Err.ensures.err
    (ap (λ p. block_rules p) c.turn.ensures.parts) c.turn-in-Err.ensures.answers
