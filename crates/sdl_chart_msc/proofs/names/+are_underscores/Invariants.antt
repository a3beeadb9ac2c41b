use Rattle.std.proofs.Common.{length}
use Rattle.sdl_chart_msc.proofs.names.+are_underscores.Given as goal

abbrev pub decreases-are_underscores : goal.decreases-are_underscores
decreases-are_underscores l = length l.text.now
