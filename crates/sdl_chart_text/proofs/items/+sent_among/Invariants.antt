use Rattle.std.proofs.Common.{length}
use Rattle.sdl_chart_text.proofs.items.+sent_among.Given as goal

abbrev pub decreases-sent_among : goal.decreases-sent_among
decreases-sent_among l = length l.done.now
