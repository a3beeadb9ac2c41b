use Rattle.std.proofs.Common.{◌≡◌, ◌++◌, take, filter_map}
use Rattle.sdl_structure_parts.specs.Structure.{system_gate_name}
use Rattle.sdl_structure_parts.proofs.structure.add_gates.Given as goal

abbrev pub invariant-loop-gate : goal.invariant-loop-gate
invariant-loop-gate l = l.names ≡ record l.fn.names { gates = l.fn.names.gates ++ filter_map system_gate_name (take l.gate-index l.gates) }
