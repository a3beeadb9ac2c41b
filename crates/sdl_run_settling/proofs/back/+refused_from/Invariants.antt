use Rattle.std.proofs.Common.{length}
use Rattle.sdl_run_settling.proofs.back.+refused_from.Given as goal

abbrev pub decreases-refused_from : goal.decreases-refused_from
decreases-refused_from g l = length l.done.now
