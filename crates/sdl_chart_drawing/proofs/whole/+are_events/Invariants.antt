use Rattle.std.proofs.Common.{length}
use Rattle.sdl_chart_drawing.proofs.whole.+are_events.Given as goal

abbrev pub decreases-are_events : goal.decreases-are_events
decreases-are_events l = length l.rows.now
