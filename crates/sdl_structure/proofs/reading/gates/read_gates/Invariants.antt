use Rattle.std.proofs.Common.{[], take, map}
use Rattle.sdl_structure_tables.specs.Tables.{table_in}
use Rattle.sdl_structure.specs.File.{IsGateTable}
use Rattle.sdl_structure_tables.proofs.ListLemmas.{AreRead}
use Rattle.sdl_structure.proofs.reading.gates.read_gates.Given as goal

abbrev pub invariant-loop-index : goal.invariant-loop-index
invariant-loop-index l = AreRead (λ m g. IsGateTable l.signals (l.owner, m) g) [] (take l.index (map table_in l.tables)) l.gates.items l.taken.items
