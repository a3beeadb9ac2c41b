use Rattle.std.proofs.Common.{length}
use Rattle.sdl_chart_words.proofs.asked.+with_digits.Given as goal

abbrev pub decreases-with_digits : goal.decreases-with_digits
decreases-with_digits l = length l.digits.now
