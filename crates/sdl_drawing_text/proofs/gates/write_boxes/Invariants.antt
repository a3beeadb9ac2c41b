use Rattle.std.proofs.Common.{take}
use Rattle.std.specs.Io.KnownBytes.{Appends}
use Rattle.sdl_drawing_text.specs.Gates.{boxes_text}
use Rattle.sdl_drawing_text.proofs.gates.write_boxes.Given as goal

abbrev pub invariant-loop-gate : goal.invariant-loop-gate
invariant-loop-gate g l = Appends (g.W.Write.contents l.fn.output) (g.W.Write.contents l.output) (boxes_text l.structure (take l.gate-index l.gate-items))
