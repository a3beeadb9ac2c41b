use Rattle.sdl_run_threads.proofs.Flushes.{forwarder_flushed}
use Rattle.sdl_run_threads.proofs.workers.ForwarderThreadWork.touched.Goals as goal

pub returns-clause-keeps : goal.returns-clause-keeps
returns-clause-keeps c = λ structure rows h.
    forwarder_flushed c.args.self.now.ends c.touched.new.self c.touched.ensures.put c.touched.ensures.tap c.touched.ensures.same rows c.args.self.now.forwarder h
