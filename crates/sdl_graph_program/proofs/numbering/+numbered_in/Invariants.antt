use Rattle.std.proofs.Common.{length}
use Rattle.sdl_graph_program.proofs.numbering.+numbered_in.Given as goal

abbrev pub decreases-numbered_in : goal.decreases-numbered_in
decreases-numbered_in l = length l.sets.now
