use Rattle.std.proofs.Common.{◌≡◌, map, length, take, Some}
use Rattle.std.specs.List.{AllByRecursion}
use Rattle.sdl_signal.specs.Line.{ValueFits, value_texts}
use Rattle.sdl_signal.specs.Reading.{ValueNamesFirst}
use Rattle.sdl_signal.proofs.reading.values.read_values.Given as goal

abbrev pub invariant-loop-i : goal.invariant-loop-i
invariant-loop-i l = record {
  many : length l.values.items ≡ l.i;
  texts : value_texts l.names (take l.i l.sorts) l.values.items ≡ Some (take l.i (map (λ f. f.now) l.fields));
  fit : AllByRecursion ValueFits l.values.items;
  first : AllByRecursion (ValueNamesFirst l.names) l.values.items;
}
