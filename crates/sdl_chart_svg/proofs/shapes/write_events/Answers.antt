use Rattle.sdl_chart_svg.specs.Shapes.{event_text}
use Rattle.sdl_chart_svg.proofs.Items.{item_next}
use Rattle.sdl_chart_svg.proofs.shapes.write_events.Goals as goal

pub loop-event-preserved : goal.loop-event-preserved
loop-event-preserved g c =
    item_next event_text c.args.events.now c.loop-event.event-index c.event-item.result _ _ _
    c.loop-event-test.true c.event-item.is c.loop-event.invariant c.in_ok-write_event.ensures
