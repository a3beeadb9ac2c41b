use Rattle.std.proofs.Common.{◌≡◌, length, take}
use Rattle.std.specs.List.{AllZip}
use Rattle.toml.specs.View.{view}
use Rattle.sdl_structure_tables.specs.Names.{NamesSort}
use Rattle.sdl_structure_tables.proofs.signals.read_sorts.Given as goal

abbrev pub invariant-loop-value : goal.invariant-loop-value
invariant-loop-value l = record {
  named : AllZip (λ v s. NamesSort (view v) s) (take l.value-index l.texts) l.sorts.items;
  long : length l.sorts.items ≡ l.value-index;
}
