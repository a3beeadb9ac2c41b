use Rattle.std.proofs.Common.{length}
use Rattle.sdl_chart_page.proofs.placing.Placing.+note_all.Given as goal

abbrev pub decreases-note_all : goal.decreases-note_all
decreases-note_all l = length l.done.now
