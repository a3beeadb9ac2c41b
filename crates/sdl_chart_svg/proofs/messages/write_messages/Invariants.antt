use Rattle.std.proofs.Common.{take}
use Rattle.std.specs.Io.KnownBytes.{Appends}
use Rattle.sdl_chart_text.specs.Legends.{reason_of}
use Rattle.sdl_chart_svg.specs.Messages.{messages_text}
use Rattle.sdl_chart_svg.proofs.messages.write_messages.Given as goal

abbrev pub invariant-loop-message : goal.invariant-loop-message
invariant-loop-message g l = Appends (g.W.Write.contents l.fn.output) (g.W.Write.contents l.output) (messages_text (reason_of l.structure l.left) (take l.message-index l.messages))
