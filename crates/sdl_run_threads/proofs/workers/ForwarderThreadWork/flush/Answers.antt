use Rattle.sdl_run_threads.proofs.Flushes.{forwarder_flushed}
use Rattle.sdl_run_threads.proofs.workers.ForwarderThreadWork.flush.Goals as goal

pub returns-clause-keeps : goal.returns-clause-keeps
returns-clause-keeps c = λ structure rows h.
    forwarder_flushed c.args.self.now.ends c.flush.new.self c.flush.ensures.put c.flush.ensures.tap c.flush.ensures.same rows c.args.self.now.forwarder h
