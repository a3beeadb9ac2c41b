use Rattle.sdl_drawing_text.specs.Gates.{box_text}
use Rattle.sdl_svg.proofs.Texts.{loop_next}
use Rattle.sdl_drawing_text.proofs.gates.write_boxes.Goals as goal

pub loop-gate-preserved : goal.loop-gate-preserved
loop-gate-preserved g c =
    loop_next (box_text c.args.structure.now) c.as_slice-gate-items.result.now c.loop-gate.gate-index _ _ _ _
    c.loop-gate-test.true c.loop-gate.invariant c.in_ok-write_box.ensures
