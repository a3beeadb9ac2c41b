use Rattle.std.proofs.Common.{inr}
use Rattle.sdl_graph_program.proofs.commands.show_structure.Goals as goal

pub returns-clause-done : goal.returns-clause-done
returns-clause-done g c = let shown = c.structure_at.ensures.shown in inr (shown.0, inr (c.in-Some.form, shown.1))
