use Rattle.std.proofs.Common.{length}
use Rattle.sdl_chart_words.proofs.asked.+with_words.Given as goal

abbrev pub decreases-with_words : goal.decreases-with_words
decreases-with_words l = length l.words.now
