use Rattle.std.proofs.Common.{take, flat_map}
use Rattle.std.specs.Io.KnownBytes.{Appends}
use Rattle.std.specs.List.{enumerate_from}
use Rattle.sdl_drawing_text.specs.Dot.{gate_line}
use Rattle.sdl_drawing_text.proofs.clusters.write_gates.Given as goal

abbrev pub invariant-loop-number : goal.invariant-loop-number
invariant-loop-number g l = Appends (g.W.Write.contents l.fn.output) (g.W.Write.contents l.output) (flat_map (gate_line l.agent) (take l.number (enumerate_from 0 l.gates)))
