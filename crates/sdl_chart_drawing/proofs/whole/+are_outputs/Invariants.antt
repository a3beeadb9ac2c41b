use Rattle.std.proofs.Common.{length}
use Rattle.sdl_chart_drawing.proofs.whole.+are_outputs.Given as goal

abbrev pub decreases-are_outputs : goal.decreases-are_outputs
decreases-are_outputs l = length l.messages.now
