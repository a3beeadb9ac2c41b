use Rattle.sdl_chart_text.specs.Legends.{reason_of}
use Rattle.sdl_chart_svg.specs.Messages.{message_text}
use Rattle.sdl_chart_svg.proofs.Items.{item_next}
use Rattle.sdl_chart_svg.proofs.messages.write_messages.Goals as goal

pub loop-message-preserved : goal.loop-message-preserved
loop-message-preserved g c =
    item_next (message_text (reason_of c.args.structure.now c.args.left.now)) c.args.messages.now c.loop-message.message-index c.message-item.result _ _ _
    c.loop-message-test.true c.message-item.is c.loop-message.invariant c.in_ok-write_message.ensures
