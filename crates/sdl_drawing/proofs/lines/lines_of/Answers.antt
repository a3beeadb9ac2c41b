use Rattle.sdl_drawing.specs.declared.shapes.ChannelLine.{ChannelLine}
use Rattle.sdl_drawing.specs.Shown.{channel_of_number}
use Rattle.sdl_drawing.proofs.Numbers.{numbered_next}
use Rattle.sdl_drawing.proofs.lines.lines_of.Goals as goal

pub loop-number-preserved : goal.loop-number-preserved
loop-number-preserved c =
    numbered_next channel_of_number (λ (l : ChannelLine). l.channel) c.loop-number.lines.items c.push.new.self.items c.loop-number.number c.line_of.result
    c.loop-number.invariant c.in_ok-push.ensures.items c.line_of.ensures
