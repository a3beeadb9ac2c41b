use Rattle.std.proofs.Common.{length}
use Rattle.sdl_chart_words.proofs.sets.+add_sets.Given as goal

abbrev pub decreases-add_sets : goal.decreases-add_sets
decreases-add_sets l = length l.words.now
