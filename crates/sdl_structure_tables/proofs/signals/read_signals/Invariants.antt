use Rattle.std.proofs.Common.{◌≡◌, [], take, map}
use Rattle.sdl_structure_tables.specs.Tables.{table_in}
use Rattle.sdl_structure_tables.specs.Names.{IsSignalTable}
use Rattle.sdl_structure_tables.proofs.ListLemmas.{AreRead}
use Rattle.sdl_structure_tables.proofs.signals.read_signals.Given as goal

abbrev pub invariant-loop-index : goal.invariant-loop-index
invariant-loop-index l = AreRead IsSignalTable [] (take l.index (map table_in l.tables)) l.signals.items l.taken.items
