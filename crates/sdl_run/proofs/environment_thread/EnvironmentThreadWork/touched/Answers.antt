use Rattle.sdl_run.proofs.Environments.{flushed}
use Rattle.sdl_run.proofs.environment_thread.EnvironmentThreadWork.touched.Goals as goal

pub returns-clause-keeps : goal.returns-clause-keeps
returns-clause-keeps g c = λ structure rows h.
    flushed structure rows c.args.self.now.environment.now.worker c.args.self.now.environment.now.astray c.args.self.now.ends c.touched.new.self _ _ _ _ c.touched.ensures.put c.touched.ensures.tap c.touched.ensures.same h
