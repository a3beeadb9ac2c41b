use Rattle.std.proofs.Common.{arith, ◌≡◌, length, take, map, ap, sym, subst, refl, ◌∙◌}
use Rattle.std.proofs.lemmas.List.{length-map}
use Rattle.std.proofs.lemmas.Bool.Decides.{nat_tests}
use Rattle.sdl_structure_tables.specs.declared.place.Key.TheVariants as key
use Rattle.sdl_structure.specs.declared.reading.draft.Draft.{Draft}
use Rattle.sdl_structure_tables.specs.Tables.{table_in, tables_at}
use Rattle.sdl_structure_tables.specs.Blocks.{block_tables}
use Rattle.sdl_structure_tables.specs.Walks.{file_of, own}
use Rattle.sdl_structure.specs.Drafts.{HasSignals, HasSets, IsSetRead}
use Rattle.sdl_structure_tables.proofs.ListLemmas.{element, take_map_more, take_map_all}
use Rattle.sdl_structure.proofs.DraftLemmas.{too_many_sets, signals_kept, set_joins, grows_none, grows_more, length_before, one_set_more, block_part, block_lists_sets, set_part, set_before}
use Rattle.sdl_structure.proofs.reading.draft.Draft.read_sets.Goals as goal

pub returns-then-len-tables-gt-MOST_SETS-clause-fault : goal.returns-then-len-tables-gt-MOST_SETS-clause-fault
returns-then-len-tables-gt-MOST_SETS-clause-fault c =
    let len : length (tables_at key.Set (own c.args.walk.now)) ≡ length c.args.tables.now = ap (λ ts. length ts) c.requires.tables ∙ length-map c.args.tables.now table_in in
    too_many_sets _ _ c.args.block.0 _ c.requires.here c.requires.place c.at.ensures c.requires.read (grind (arith, nat_tests))

pub inner-requires : goal.inner-requires
inner-requires c =
    let w = c.args.walk.now in
    let e = element key.Set (own w) c.args.tables.now c.loop-index.index c.index-tables-index.result c.requires.tables c.requires.each c.loop-index-test.true c.index-tables-index.is in
    record { here = c.requires.here; listed = block_lists_sets w.version w.place.part (block_part w c.args.block.0 c.requires.place); kind = refl; table = e.table; there = e.there; within = e.within; few = omega arith; no_block = λ e. cc }

pub read_set-requires-clause-signals : goal.read_set-requires-clause-signals
read_set-requires-clause-signals c =
    subst (λ r. HasSignals r c.loop-index.self) (sym c.inner.ensures.file) (signals_kept (file_of c.args.walk.now) c.args.self.now c.loop-index.self (ap (λ (d : Draft). d.signals) c.loop-index.invariant.frame) c.requires.signals)

pub read_set-requires-clause-part : goal.read_set-requires-clause-part
read_set-requires-clause-part c = set_part c.args.walk.now c.inner.result c.args.block.0 c.loop-index.index c.requires.place c.inner.ensures.place

pub read_set-requires-clause-before : goal.read_set-requires-clause-before
read_set-requires-clause-before c =
    c.loop-index.invariant.read.names
    ∙ sym (set_before c.args.walk.now c.inner.result c.args.block.0 c.loop-index.index (map table_in c.args.tables.now) c.requires.here c.requires.place c.inner.ensures.file c.inner.ensures.place c.requires.tables)

pub loop-index-init : goal.loop-index-init
loop-index-init c = record { read = c.requires.read; frame = refl; grows = grows_none _ _ refl refl refl; count = omega arith }

pub returns-clause-read : goal.returns-clause-read
returns-clause-read c =
    let w = c.args.walk.now in
    subst (λ us. HasSets (file_of w) (take c.args.block.0 (block_tables (file_of w))) (own w) us c.loop-index.self) (take_map_all table_in c.args.tables.now c.loop-index.index c.loop-index-test.false ∙ sym c.requires.tables) c.loop-index.invariant.read

pub loop-index-preserved : goal.loop-index-preserved
loop-index-preserved c =
    let T = take c.args.block.0 (block_tables (file_of c.args.walk.now)) in
    let v = c.index-tables-index.result in
    let e = c.read_set.new.self in
    let next : IsSetRead c.args.block.0 c.loop-index.self (table_in v) e = subst (λ m. IsSetRead c.args.block.0 c.loop-index.self m e) c.inner.ensures.table c.in_ok-read_set.ensures.set in
    let long = length_before c.args.walk.now c.args.block.0 c.requires.here c.requires.place in
    let more = set_joins (file_of c.args.walk.now) T (own c.args.walk.now) (take c.loop-index.index (map table_in c.args.tables.now)) (table_in v) c.loop-index.self e c.loop-index.invariant.read (subst (λ k. IsSetRead k c.loop-index.self (table_in v) e) (sym long) next) c.in_ok-read_set.ensures.frame in
    record {
      read = subst (λ us. HasSets (file_of c.args.walk.now) T (own c.args.walk.now) us e) (sym (take_map_more table_in c.args.tables.now c.loop-index.index v c.loop-index-test.true c.index-tables-index.is)) more;
      frame = c.in_ok-read_set.ensures.frame ∙ ap (λ (d : Draft). record d { sets = e.sets; gates = e.gates; agent_names = e.agent_names }) c.loop-index.invariant.frame;
      grows = grows_more c.args.self.now c.loop-index.self e c.args.block.0 (table_in v) c.loop-index.invariant.grows next c.in_ok-read_set.ensures.frame;
      count = omega (arith, one_set_more c.args.block.0 c.loop-index.self (table_in v) e next, c.loop-index.invariant.count);
    }
