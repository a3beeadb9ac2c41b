use Rattle.sdl_drawing_text.specs.Channels.{line_text}
use Rattle.sdl_svg.proofs.Texts.{loop_next}
use Rattle.sdl_drawing_text.proofs.channels.write_lines.Goals as goal

pub loop-line-preserved : goal.loop-line-preserved
loop-line-preserved g c =
    loop_next (line_text c.args.structure.now) c.as_slice-line-items.result.now c.loop-line.line-index _ _ _ _
    c.loop-line-test.true c.loop-line.invariant c.in_ok-write_line.ensures
