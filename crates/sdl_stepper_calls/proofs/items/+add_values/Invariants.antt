use Rattle.std.proofs.Common.{length}
use Rattle.sdl_stepper_calls.proofs.items.+add_values.Given as goal

abbrev pub decreases-add_values : goal.decreases-add_values
decreases-add_values l = length l.sorts.now
