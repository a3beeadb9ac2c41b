use Rattle.std.proofs.Common.{length}
use Rattle.sdl_chart_drawing.proofs.whole.+are_below.Given as goal

abbrev pub decreases-are_below : goal.decreases-are_below
decreases-are_below l = length l.rows.now
