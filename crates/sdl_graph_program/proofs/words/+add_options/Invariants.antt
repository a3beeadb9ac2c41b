use Rattle.std.proofs.Common.{length}
use Rattle.sdl_graph_program.proofs.words.+add_options.Given as goal

abbrev pub decreases-add_options : goal.decreases-add_options
decreases-add_options l = length l.options.now
