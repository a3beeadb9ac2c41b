use Rattle.std.proofs.Common.{◌≡◌, take, map}
use Rattle.sdl_structure_tables.specs.Tables.{table_in, channel_names}
use Rattle.sdl_structure.specs.File.{IsChannelTable}
use Rattle.sdl_structure_tables.specs.Walks.{file_of}
use Rattle.sdl_structure.specs.Drafts.{blocks_before}
use Rattle.sdl_structure_tables.proofs.ListLemmas.{AreRead}
use Rattle.sdl_structure.proofs.reading.draft.Draft.read_channels.Given as goal

abbrev pub invariant-loop-index : goal.invariant-loop-index
invariant-loop-index l = record {
  read : AreRead (λ m ch. IsChannelTable l.fn.self.signals.items l.fn.self.blocks.items l.fn.self.sets.items l.fn.self.gates.items (l.scope, m) ch) (channel_names (blocks_before (file_of l.walk) l.scope)) (take l.index (map table_in l.tables)) l.channels.items l.self.channel_names.items;
  frame : l.self ≡ record l.fn.self { channel_names = l.self.channel_names };
}
