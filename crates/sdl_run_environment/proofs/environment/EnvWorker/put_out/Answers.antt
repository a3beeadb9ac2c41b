use Rattle.std.proofs.Common.{ap, sym, subst}
use Rattle.sdl_block_hand.specs.Puts.{AreRouted}
use Rattle.sdl_block_hand.specs.PutsBy.{CanPutOut}
use Rattle.sdl_run_outcome.specs.EnvironmentWork.{EnvWorking}
use Rattle.sdl_run_environment.proofs.environment.EnvWorker.put_out.Goals as goal

pub put_out-requires-clause-routed : goal.put_out-requires-clause-routed
put_out-requires-clause-routed g c = subst (AreRouted c.args.routes.now) (sym (ap (λ (w : EnvWorking). w.outgoing) c.self.view_is)) c.requires.routed

pub put_out-requires-clause-ways : goal.put_out-requires-clause-ways
put_out-requires-clause-ways g c = subst (CanPutOut g.Q.Queues.relations c.args.routes.now c.args.queues.now) (sym (ap (λ (w : EnvWorking). w.outgoing) c.self.view_is)) c.requires.ways
