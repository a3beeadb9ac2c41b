use Rattle.std.proofs.Common.{◌≡◌, ◌+◌, ◌*◌, ◌-◌, ◌≤◌, length, take, map}
use Rattle.sdl_structure_tables.specs.Tables.{table_in}
use Rattle.sdl_structure_tables.specs.Versions.{most_blocks}
use Rattle.sdl_structure_tables.specs.Blocks.{listed_in}
use Rattle.sdl_structure_tables.specs.Walks.{file_of}
use Rattle.sdl_structure.specs.Drafts.{HasRead, entering, tables_of}
use Rattle.sdl_structure.proofs.reading.draft.Draft.+blocks.Given as goal

abbrev pub decreases-read_list : goal.decreases-read_list
decreases-read_list l = 4 * (5 - l.around.depth) + 3

abbrev pub decreases-read_block : goal.decreases-read_block
decreases-read_block l = 4 * (5 - l.around.depth) + 2

abbrev pub decreases-read_inside : goal.decreases-read_inside
decreases-read_inside l = 4 * (5 - l.depth) + 1

abbrev pub decreases-read_inner_blocks : goal.decreases-read_inner_blocks
decreases-read_inner_blocks l = 4 * (5 - l.depth)

abbrev pub invariant-read_list-loop-value : goal.invariant-read_list-loop-value
invariant-read_list-loop-value l = record {
  read : HasRead (file_of l.walk) l.fn.self l.around.scope l.around.depth (take l.value-index (map table_in l.tables)) l.channels.items l.self;
  counted : l.self.listed_blocks ≡ l.fn.self.listed_blocks + length l.tables + listed_in l.walk.version (tables_of (entering (file_of l.walk) l.fn.self l.around.scope l.around.depth (take l.value-index (map table_in l.tables))));
  few : l.self.listed_blocks ≤ most_blocks l.walk.version;
}
