use Rattle.sdl_run_threads.proofs.Flushes.{block_flushed}
use Rattle.sdl_run_threads.proofs.workers.BlockThreadWork.flush.Goals as goal

pub returns-clause-keeps : goal.returns-clause-keeps
returns-clause-keeps g c = λ structure rows h.
    (h.0, block_flushed c.args.self.now.ends c.flush.new.self c.flush.ensures.put c.flush.ensures.tap c.flush.ensures.same _ _ _ h.1)
