use Rattle.std.proofs.Common.{◌≡◌, ◌+◌, take, map, length}
use Rattle.sdl_structure_tables.specs.Tables.{table_in}
use Rattle.sdl_structure_tables.specs.Blocks.{block_tables}
use Rattle.sdl_structure_tables.specs.Walks.{file_of, own}
use Rattle.sdl_structure.specs.Drafts.{HasSets, Grows}
use Rattle.sdl_structure.proofs.reading.draft.Draft.read_sets.Given as goal

abbrev pub invariant-loop-index : goal.invariant-loop-index
invariant-loop-index l = record {
  read : HasSets (file_of l.walk) (take l.block.0 (block_tables (file_of l.walk))) (own l.walk) (take l.index (map table_in l.tables)) l.self;
  frame : l.self ≡ record l.fn.self { sets = l.self.sets; gates = l.self.gates; agent_names = l.self.agent_names };
  grows : Grows l.fn.self l.self;
  count : length l.self.sets.items ≡ length l.fn.self.sets.items + l.index;
}
