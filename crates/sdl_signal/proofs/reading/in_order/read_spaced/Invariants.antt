use Rattle.std.proofs.Common.{◌≡◌, ◌++◌, ℕ, List, Some, length, take}
use Rattle.std.specs.List.{AllByRecursion}
use Rattle.sdl_signal.specs.Line.{ValueFits, value_texts}
use Rattle.sdl_signal.specs.Reading.{ValueNamesFirst}
use Rattle.sdl_signal.specs.Writing.{spaced}
use Rattle.sdl_signal.proofs.reading.in_order.read_spaced.Given as goal

abbrev pub invariant-loop-sort : goal.invariant-loop-sort
invariant-loop-sort l = record {
  many : length l.values.items ≡ l.sort-index;
  texts : (ts : List (List ℕ)) × (value_texts l.names (take l.sort-index l.sorts) l.values.items ≡ Some ts) × (l.text ≡ spaced ts ++ l.rest);
  fit : AllByRecursion ValueFits l.values.items;
  first : AllByRecursion (ValueNamesFirst l.names) l.values.items;
}
