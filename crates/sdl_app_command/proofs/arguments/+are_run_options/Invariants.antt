use Rattle.std.proofs.Common.{length}
use Rattle.sdl_app_command.proofs.arguments.+are_run_options.Given as goal

abbrev pub decreases-are_run_options : goal.decreases-are_run_options
decreases-are_run_options l = length l.words.now
