use Rattle.std.proofs.Common.{length}
use Rattle.sdl_chart_drawing.proofs.whole.+are_in_order.Given as goal

abbrev pub decreases-are_in_order : goal.decreases-are_in_order
decreases-are_in_order l = length l.rows.now
