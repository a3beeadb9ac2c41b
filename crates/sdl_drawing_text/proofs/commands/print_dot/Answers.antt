use Rattle.sdl_drawing_text.specs.Dot.{IsDot}
use Rattle.sdl_drawing_text.proofs.EdgeLemmas.{printed}
use Rattle.sdl_drawing_text.proofs.commands.print_dot.Goals as goal

pub returns-clause-done : goal.returns-clause-done
returns-clause-done g c =
    printed (IsDot c.args.structure.now) c.write_dot-text.result _ _ _ _ c.write_dot-text.ensures c.written.ensures.status c.written.ensures.fault c.written.ensures.kept
