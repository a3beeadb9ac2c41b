use Rattle.std.proofs.Common.{sym, subst}
use Rattle.sdl_instances.specs.CoreOf.{CanFire}
use Rattle.sdl_stepper_block_calls.proofs.workers.step.Goals as goal

pub returns-clause-worker : goal.returns-clause-worker
returns-clause-worker g c =
    record {
      parts = subst (λ p. CanFire g.S.Agents.may p) (sym c.step_serial.ensures.parts) c.requires.worker.parts;
      sound = c.step_serial.ensures.sound;
      legal = c.step_serial.ensures.legal;
    }
