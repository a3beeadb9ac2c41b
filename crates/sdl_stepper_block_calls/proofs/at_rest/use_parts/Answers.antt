use Rattle.std.proofs.Common.{sym, subst}
use Rattle.sdl_instances.specs.CoreOf.{CanFire}
use Rattle.sdl_stepper_block_calls.proofs.at_rest.use_parts.Goals as goal

pub use_as_core-requires-clause-sound : goal.use_as_core-requires-clause-sound
use_as_core-requires-clause-sound g c = c.in-Ok.ensures.sound c.args.site.now.place.routes.now

pub use_as_core-requires-clause-parts : goal.use_as_core-requires-clause-parts
use_as_core-requires-clause-parts g c = subst (λ p. CanFire g.S.Agents.may p) (sym c.in-Ok.ensures.parts) c.requires.stored.fires

pub use_as_worker-requires-clause-sound : goal.use_as_worker-requires-clause-sound
use_as_worker-requires-clause-sound g c = c.in-Ok.ensures.sound c.args.site.now.place.routes.now

pub use_as_worker-requires-clause-parts : goal.use_as_worker-requires-clause-parts
use_as_worker-requires-clause-parts g c = subst (λ p. CanFire g.S.Agents.may p) (sym c.in-Ok.ensures.parts) c.requires.stored.fires
