use Rattle.std.proofs.Common.{flat_map, take}
use Rattle.std.specs.Io.KnownBytes.{Appends}
use Rattle.sdl_chart_text.specs.Signals.{next_value_text}
use Rattle.sdl_chart_text.proofs.signals.write_more_values.Given as goal

abbrev pub invariant-loop-value : goal.invariant-loop-value
invariant-loop-value g l = Appends (g.W.Write.contents l.fn.output) (g.W.Write.contents l.output) (flat_map (next_value_text l.structure l.mark) (take l.value-index l.values))
