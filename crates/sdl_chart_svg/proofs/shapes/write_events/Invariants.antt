use Rattle.std.proofs.Common.{take}
use Rattle.std.specs.Io.KnownBytes.{Appends}
use Rattle.sdl_chart_svg.specs.Shapes.{events_text}
use Rattle.sdl_chart_svg.proofs.shapes.write_events.Given as goal

abbrev pub invariant-loop-event : goal.invariant-loop-event
invariant-loop-event g l = Appends (g.W.Write.contents l.fn.output) (g.W.Write.contents l.output) (events_text (take l.event-index l.events))
