use Rattle.sdl_chart_svg.specs.Lifelines.{reminder_text}
use Rattle.sdl_chart_svg.proofs.Items.{item_next}
use Rattle.sdl_chart_svg.proofs.lifelines.write_reminders.Goals as goal

pub loop-line-preserved : goal.loop-line-preserved
loop-line-preserved g c =
    item_next (reminder_text c.args.y) c.args.lines.now c.loop-line.line-index c.line-item.result _ _ _
    c.loop-line-test.true c.line-item.is c.loop-line.invariant c.in_ok-write_reminder.ensures
