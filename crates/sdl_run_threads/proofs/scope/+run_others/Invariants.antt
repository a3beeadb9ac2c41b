use Rattle.std.proofs.Common.{vec_len}
use Rattle.sdl_run_threads.proofs.scope.+run_others.Given as goal

abbrev pub decreases-run_others : goal.decreases-run_others
decreases-run_others g l = vec_len l.workers.now
