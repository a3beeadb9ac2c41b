use Rattle.std.proofs.Common.{sym, subst}
use Rattle.sdl_instances.specs.CoreOf.{CanFire}
use Rattle.sdl_stepper_block_calls.proofs.cores.use_core.Goals as goal

pub core_line-requires-clause-parts : goal.core_line-requires-clause-parts
core_line-requires-clause-parts g c = subst (λ p. CanFire g.S.Agents.may p) (sym c.calls.invariant.2) c.requires.parts
