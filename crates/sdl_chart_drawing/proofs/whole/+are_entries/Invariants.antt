use Rattle.std.proofs.Common.{length}
use Rattle.sdl_chart_drawing.proofs.whole.+are_entries.Given as goal

abbrev pub decreases-are_entries : goal.decreases-are_entries
decreases-are_entries l = length l.messages.now
