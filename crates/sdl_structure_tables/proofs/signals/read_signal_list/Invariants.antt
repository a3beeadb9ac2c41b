use Rattle.std.proofs.Common.{◌≡◌, ◌≢◌, AllPairs, take}
use Rattle.std.specs.List.{AllZip}
use Rattle.toml.specs.View.{view}
use Rattle.sdl_structure_tables.specs.Names.{NamesSignal}
use Rattle.sdl_structure_tables.proofs.signals.read_signal_list.Given as goal

abbrev pub invariant-loop-value : goal.invariant-loop-value
invariant-loop-value l = record {
  named : AllZip (λ v id. NamesSignal l.signals (view v) id) (take l.value-index l.texts) l.ids.items;
  once : AllPairs (λ x y. x.0 ≢ y.0) l.ids.items;
}
