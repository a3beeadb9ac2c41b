use Rattle.std.proofs.Common.{rules, ◌≡◌, Some, refl, ◌∙◌}
use Rattle.toml.specs.Data.{as_table}
use Rattle.toml.specs.View.{view, table_view}
use Rattle.sdl_structure_tables.specs.Walks.{file_of}
use Rattle.sdl_structure_tables.proofs.PlaceLemmas.{inside_is}
use Rattle.sdl_structure_tables.proofs.walk.Walk.inner.Goals as goal

pub returns-clause-here : goal.returns-clause-here
returns-clause-here c =
    let h = c.requires.here in
    let (place, table) = inside_is c.args.self.now.version (file_of c.args.self.now) c.args.self.now.place c.args.key c.args.index h.place c.requires.listed c.requires.kind c.requires.no_block (rw h.table c.requires.within) in
    let same : as_table (view c.args.value.now) ≡ Some (table_view c.in-Some.table.now) = search rules in
    record { place = rw c.inside.ensures place; table = rw c.inside.ensures (table ∙ rw h.table (c.requires.there ∙ rw same refl)); version = h.version }
