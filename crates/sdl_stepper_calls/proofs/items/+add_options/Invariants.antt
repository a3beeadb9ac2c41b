use Rattle.std.proofs.Common.{length}
use Rattle.sdl_stepper_calls.proofs.items.+add_options.Given as goal

abbrev pub decreases-add_options : goal.decreases-add_options
decreases-add_options l = length l.words.now
