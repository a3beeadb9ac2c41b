use Rattle.std.proofs.Common.{rules, ◌≡◌, Some, refl, ◌∙◌}
use Rattle.toml.specs.Data.{as_table}
use Rattle.toml.specs.View.{view, table_view}
use Rattle.sdl_structure_tables.specs.Tables.{table_in}
use Rattle.sdl_structure_tables.specs.Walks.{file_of}
use Rattle.sdl_structure_tables.proofs.PlaceLemmas.{block_place_is}
use Rattle.sdl_structure_tables.proofs.walk.Walk.inner_block.Goals as goal

pub returns-clause-here : goal.returns-clause-here
returns-clause-here c =
    let h = c.requires.here in
    let (place, table) = block_place_is (file_of c.args.self.now) c.args.number (table_in c.args.value.now) c.requires.there in
    let same : as_table (view c.args.value.now) ≡ Some (table_view c.in-Some.table.now) = search rules in
    record { place = rw c.of_block.ensures place; table = rw c.of_block.ensures (table ∙ rw same refl); version = h.version }
