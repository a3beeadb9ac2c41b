use Rattle.std.proofs.Common.{ap}
use Rattle.sdl_transition.specs.Rules.{block_rules}
use Rattle.sdl_instances.specs.CoreOf.{core_of, parts_of}
use Rattle.sdl_instances.proofs.Systems.{sound_there}
use Rattle.sdl_stepper_block_calls.proofs.Again.{sound_in}
use Rattle.sdl_stepper_block_calls.proofs.cores.arrive.Goals as goal

pub arrive-requires-in-Err-clause-sound : goal.arrive-requires-in-Err-clause-sound
arrive-requires-in-Err-clause-sound g c =
    sound_there g.S.Agents.may (core_of c.args.core.now) (core_of c.arrive.new.self) c.args.routes.now (block_rules (parts_of c.args.core.now)) (block_rules (parts_of c.arrive.new.self)) c.in-Err.ensures.err.1 (ap (λ p. block_rules p) c.arrive.ensures.parts) c.requires.sound

pub returns-in-Ok-arrive-clause-sound : goal.returns-in-Ok-arrive-clause-sound
returns-in-Ok-arrive-clause-sound g c =
    sound_in g.S.Agents.may (core_of c.arrive.new.self) (core_of c.arrive-in-Err.new.self) c.args.routes.now (block_rules (parts_of c.arrive.new.self)) (block_rules (parts_of c.arrive-in-Err.new.self)) c.arrive-in-Err.ensures.rest (ap (λ p. block_rules p) c.arrive-in-Err.ensures.parts) c.in-Ok-arrive.ensures.sound
