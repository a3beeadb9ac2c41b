use Rattle.std.proofs.Common.{take}
use Rattle.std.specs.Io.KnownBytes.{Appends}
use Rattle.sdl_drawing_text.specs.Gates.{gate_names_text}
use Rattle.sdl_drawing_text.proofs.gates.write_gate_names.Given as goal

abbrev pub invariant-loop-gate : goal.invariant-loop-gate
invariant-loop-gate g l = Appends (g.W.Write.contents l.fn.output) (g.W.Write.contents l.output) (gate_names_text l.structure (take l.gate-index l.gate-items))
