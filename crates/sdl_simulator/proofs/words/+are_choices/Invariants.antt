use Rattle.std.proofs.Common.{length}
use Rattle.sdl_simulator.proofs.words.+are_choices.Given as goal

abbrev pub decreases-are_choices : goal.decreases-are_choices
decreases-are_choices l = length l.words.now
