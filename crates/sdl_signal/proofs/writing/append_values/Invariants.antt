use Rattle.std.proofs.Common.{◌≡◌, ◌≤◌, ◌+◌, ◌*◌, ◌++◌, [], length, map, take, unwrap_or}
use Rattle.sdl_signal.specs.Line.{value_texts}
use Rattle.sdl_signal.specs.Sorts.{sort_of}
use Rattle.sdl_signal.specs.Writing.{spaced}
use Rattle.sdl_signal.proofs.writing.append_values.Given as goal

abbrev pub invariant-loop-value : goal.invariant-loop-value
invariant-loop-value l = record {
  texts : l.line.items ≡ l.initial.line.items ++ spaced (take l.value-index (unwrap_or (value_texts l.names (map sort_of l.values) l.values) []));
  few : length l.line.items ≤ length l.initial.line.items + 44 * l.value-index;
}
