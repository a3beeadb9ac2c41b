use Rattle.sdl_chart_svg.specs.Lifelines.{reminders_text}
use Rattle.sdl_svg.proofs.Texts.{loop_next}
use Rattle.sdl_chart_svg.proofs.lifelines.write_names.Goals as goal

pub loop-y-preserved : goal.loop-y-preserved
loop-y-preserved g c =
    loop_next (λ y. reminders_text y c.args.lines.now) c.args.heights.now c.loop-y.y-index _ _ _ _
    c.loop-y-test.true c.loop-y.invariant c.in_ok-write_reminders.ensures
