use Rattle.sdl_run_threads.proofs.Flushes.{block_flushed}
use Rattle.sdl_run_threads.proofs.workers.BlockThreadWork.touched.Goals as goal

pub returns-clause-keeps : goal.returns-clause-keeps
returns-clause-keeps g c = λ structure rows h.
    (h.0, block_flushed c.args.self.now.ends c.touched.new.self c.touched.ensures.put c.touched.ensures.tap c.touched.ensures.same _ _ _ h.1)
