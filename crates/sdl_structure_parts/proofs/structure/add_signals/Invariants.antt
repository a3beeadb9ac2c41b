use Rattle.std.proofs.Common.{◌≡◌, ◌++◌, take, map}
use Rattle.sdl_structure_parts.specs.Structure.{declared_signal}
use Rattle.sdl_structure_parts.proofs.structure.add_signals.Given as goal

abbrev pub invariant-loop-signal : goal.invariant-loop-signal
invariant-loop-signal l = l.names ≡ record l.fn.names { signals = l.fn.names.signals ++ map declared_signal (take l.signal-index l.signals) }
