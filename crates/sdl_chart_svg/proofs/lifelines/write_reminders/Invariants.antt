use Rattle.std.proofs.Common.{take}
use Rattle.std.specs.Io.KnownBytes.{Appends}
use Rattle.sdl_chart_svg.specs.Lifelines.{reminders_text}
use Rattle.sdl_chart_svg.proofs.lifelines.write_reminders.Given as goal

abbrev pub invariant-loop-line : goal.invariant-loop-line
invariant-loop-line g l = Appends (g.W.Write.contents l.fn.output) (g.W.Write.contents l.output) (reminders_text l.y (take l.line-index l.lines))
