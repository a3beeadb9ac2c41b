use Rattle.std.proofs.Common.{inr}
use Rattle.sdl_drawing_text.specs.Svg.{svg_text}
use Rattle.sdl_drawing_text.proofs.Shown.{printed_text}
use Rattle.sdl_drawing_text.proofs.commands.draw_structure.Goals as goal

pub returns-in-Ok-clause-done : goal.returns-in-Ok-clause-done
returns-in-Ok-clause-done g c =
    inr (
      c.in-Ok.drawing,
      c.in-Ok.ensures.shown,
      c.in-Ok.ensures.tidy,
      printed_text (svg_text c.args.structure.now c.in-Ok.drawing) c.write_svg-text.result _ _ _ _
          c.write_svg-text.ensures c.written.ensures.status c.written.ensures.fault c.written.ensures.kept,
    )
