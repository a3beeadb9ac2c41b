use Rattle.std.proofs.Common.{◌≡◌, ◌+◌, ◌<◌, ◌≤◌, length, map, take, ap, sym, subst, ◌∙◌, arith}
use Rattle.std.specs.Prelude.{IfOk}
use Rattle.std.proofs.lemmas.List.{length-map}
use Rattle.sdl_structure_parts.specs.declared.parts.Scope.TheVariants as scope
use Rattle.sdl_structure_tables.specs.declared.place.Key.TheVariants as key
use Rattle.sdl_structure_tables.specs.Keys.{is_key}
use Rattle.sdl_structure_tables.specs.Versions.{most_blocks}
use Rattle.sdl_structure_tables.specs.Tables.{tables_at, table_in}
use Rattle.sdl_structure_tables.specs.Blocks.{block_tables, listed_in}
use Rattle.sdl_structure_tables.specs.Faults.{so_far}
use Rattle.sdl_structure_tables.specs.Walks.{file_of}
use Rattle.sdl_structure.specs.Drafts.{ComesTo, HasRead, entering, tables_of}
use Rattle.sdl_structure_tables.proofs.PlaceLemmas.{top_is}
use Rattle.sdl_structure.proofs.FileLemmas.{some_blocks}
use Rattle.sdl_structure.proofs.TurnLemmas.{on_both}
use Rattle.sdl_structure.proofs.reading.draft.Draft.read_blocks.Goals as goal

pub read_list-requires-clause-listed : goal.read_list-requires-clause-listed
read_list-requires-clause-listed c = ap (λ q. is_key c.args.top.now.version q key.Block) c.requires.part

pub read_list-requires-clause-counted : goal.read_list-requires-clause-counted
read_list-requires-clause-counted c =
    let w = c.args.top.now in
    let vs = c.in_ok-tables.tables.now in
    let o = top_is w c.requires.here c.requires.part in
    let held : length (tables_at key.Block (file_of w)) ≡ length vs = ap (λ m. length (tables_at key.Block m)) (sym o) ∙ (ap (λ us. length us) c.in_ok-tables.ensures.tables ∙ length-map vs table_in) in
    subst (λ q. c.args.self.now.listed_blocks + length vs ≡ so_far (file_of w) q key.Block w.place.block) (sym c.requires.part) (omega (arith, held, c.requires.none.1))

pub read_list-requires-clause-all : goal.read_list-requires-clause-all
read_list-requires-clause-all c =
    let w = c.args.top.now in
    let root = file_of w in
    let nothing : listed_in w.version (take (length c.args.self.now.blocks.items) (block_tables root)) ≡ 0 = ap (λ k. listed_in w.version (take k (block_tables root))) c.requires.none.0 in
    subst (λ q. so_far root q key.Block w.place.block ≡ length (tables_at key.Block root) + listed_in w.version (take (length c.args.self.now.blocks.items) (block_tables root))) (sym c.requires.part) (omega (arith, nothing))

pub read_list-requires-clause-read : goal.read_list-requires-clause-read
read_list-requires-clause-read c =
    let w = c.args.top.now in
    let o = top_is w c.requires.here c.requires.part in
    subst (λ us. ComesTo (file_of w) c.args.self.now scope.System 1 us) (ap (λ m. tables_at key.Block m) (sym o) ∙ c.in_ok-tables.ensures.tables) c.requires.read

pub returns-clause-read : goal.returns-clause-read
returns-clause-read c =
    let w = c.args.top.now in
    let o = top_is w c.requires.here c.requires.part in
    subst (λ us. IfOk c.read_list.result (λ channels. HasRead (file_of w) c.args.self.now scope.System 1 us channels.items c.read_list.new.self)) (sym c.in_ok-tables.ensures.tables ∙ ap (λ m. tables_at key.Block m) o) c.read_list.ensures.read

pub returns-clause-some : goal.returns-clause-some
returns-clause-some c =
    let w = c.args.top.now in
    let root = file_of w in
    let d = c.args.self.now in
    let e = c.read_list.new.self in
    let vs = c.in_ok-tables.tables.now in
    let o = top_is w c.requires.here c.requires.part in
    let whole : map table_in vs ≡ tables_at key.Block root = sym c.in_ok-tables.ensures.tables ∙ ap (λ m. tables_at key.Block m) o in
    let long : length vs ≡ length (tables_at key.Block root) = sym (length-map vs table_in) ∙ ap (λ us. length us) whole in
    on_both c.read_list.result (λ channels. HasRead root d scope.System 1 (map table_in vs) channels.items e)
    (e.listed_blocks ≡ d.listed_blocks + length vs + listed_in w.version (tables_of (entering root d scope.System 1 (map table_in vs)))) (e.listed_blocks ≤ most_blocks w.version)
    ((0 < length e.blocks.items) × (length e.blocks.items ≤ most_blocks w.version))
    (λ channels read counted few.
    subst (λ v. (0 < length e.blocks.items) × (length e.blocks.items ≤ most_blocks v)) (sym c.requires.here.version)
    (some_blocks root d e channels.items c.requires.none.0 (subst (λ us. HasRead root d scope.System 1 us channels.items e) whole read) (length vs) long c.in_ok-tables.ensures.some
    (subst (λ v. e.listed_blocks ≡ length vs + listed_in v (tables_of (entering root d scope.System 1 (tables_at key.Block root)))) c.requires.here.version
    (subst (λ us. e.listed_blocks ≡ length vs + listed_in w.version (tables_of (entering root d scope.System 1 us))) whole (omega (arith, counted, c.requires.none.1))))
    (subst (λ v. e.listed_blocks ≤ most_blocks v) c.requires.here.version few)))
    c.read_list.ensures.read c.read_list.ensures.counted c.read_list.ensures.few
