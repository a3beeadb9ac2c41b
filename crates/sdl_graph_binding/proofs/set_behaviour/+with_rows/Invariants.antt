use Rattle.sdl_graph_binding.proofs.set_behaviour.+with_rows.Given as goal

abbrev pub decreases-with_rows : goal.decreases-with_rows
decreases-with_rows g l = l.rows
