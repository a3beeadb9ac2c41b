use Rattle.sdl_drawing.specs.declared.shapes.Frame.{Frame}
use Rattle.sdl_drawing.specs.Shown.{agents_shown, block_agent}
use Rattle.sdl_drawing.proofs.Numbers.{numbered_more}
use Rattle.sdl_drawing.proofs.frames.add_blocks.Goals as goal

pub loop-number-preserved : goal.loop-number-preserved
loop-number-preserved c =
    numbered_more block_agent (λ (f : Frame). f.agent) (agents_shown c.args.frames.now.items) c.loop-number.frames.items c.push.new.self.items c.loop-number.number c.block_frame.result
    c.loop-number.invariant c.in_ok-push.ensures.items c.block_frame.ensures
