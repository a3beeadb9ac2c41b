use Rattle.sdl_drawing_text.specs.Frames.{frame_text}
use Rattle.sdl_svg.proofs.Texts.{loop_next}
use Rattle.sdl_drawing_text.proofs.frames.write_frames.Goals as goal

pub loop-frame-preserved : goal.loop-frame-preserved
loop-frame-preserved g c =
    loop_next (frame_text c.args.structure.now) c.as_slice-frame-items.result.now c.loop-frame.frame-index _ _ _ _
    c.loop-frame-test.true c.loop-frame.invariant c.in_ok-write_frame.ensures
