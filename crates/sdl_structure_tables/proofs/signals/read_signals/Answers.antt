use Rattle.std.proofs.Common.{rules, arith, ◌≡◌, ◌<◌, [], Some, length, take, map, sym, ap, refl, ◌∙◌, subst}
use Rattle.std.proofs.lemmas.Bool.Decides.{nat_tests}
use Rattle.sdl_structure_tables.specs.declared.place.Key.TheVariants as key
use Rattle.sdl_structure_tables.specs.declared.place.Part.TheVariants as part
use Rattle.sdl_structure_tables.specs.Tables.{table_in, tables_at}
use Rattle.sdl_structure_tables.specs.Names.{IsSignalTable}
use Rattle.sdl_structure_tables.specs.Walks.{own}
use Rattle.sdl_structure_tables.proofs.ListLemmas.{read_more, element, all_read, names_apart}
use Rattle.sdl_structure_tables.proofs.PlaceLemmas.{before_signal}
use Rattle.sdl_structure_tables.proofs.signals.read_signals.Goals as goal

pub inner-requires : goal.inner-requires
inner-requires c =
    let vs = c.in_ok-tables.tables.now in
    let e = element key.Signal (own c.args.top.now) vs c.loop-index.index c.index-tables-index.result c.in_ok-tables.ensures.tables c.in_ok-tables.ensures.each c.loop-index-test.true c.index-tables-index.is in
    let few : length vs < 65536 = grind (arith, nat_tests, c.in_ok-tables.ensures.few) in
    record { here = c.requires.here; listed = rw c.requires.part refl; kind = refl; table = e.table; there = e.there; within = e.within; few = omega (arith, few); no_block = λ e. cc }

pub read_signal-requires : goal.read_signal-requires
read_signal-requires c = record {
  here = c.inner.ensures.here;
  part = ap (λ p. p.part) c.inner.ensures.place ∙ rw c.requires.part refl;
  before = c.loop-index.invariant.names ∙ sym (before_signal c.args.top.now c.inner.result c.loop-index.index (map table_in c.in_ok-tables.tables.now) c.requires.here c.requires.part c.inner.ensures.file c.inner.ensures.place c.in_ok-tables.ensures.tables);
}

pub loop-index-preserved : goal.loop-index-preserved
loop-index-preserved c =
    let x = c.in_ok-signal.signal in
    let r = subst (λ m. IsSignalTable m x) c.inner.ensures.table c.in_ok-signal.ensures.read in
    rw (c.in_ok-push.ensures.items, c.in_ok-signal.ensures.joined) (read_more IsSignalTable [] c.in_ok-tables.tables.now c.loop-index.index c.index-tables-index.result c.loop-index.signals.items c.loop-index.taken.items x x.name c.loop-index-test.true c.index-tables-index.is c.loop-index.invariant r r.name.0 c.in_ok-signal.ensures.apart)

pub returns-clause-read : goal.returns-clause-read
returns-clause-read c = (all_read IsSignalTable [] (tables_at key.Signal (own c.args.top.now)) c.in_ok-tables.tables.now c.loop-index.index c.loop-index.signals.items c.loop-index.taken.items c.in_ok-tables.ensures.tables c.loop-index-test.false c.loop-index.invariant).named

pub returns-clause-apart : goal.returns-clause-apart
returns-clause-apart c = names_apart IsSignalTable _ _ _ c.loop-index.taken.items (all_read IsSignalTable [] (tables_at key.Signal (own c.args.top.now)) c.in_ok-tables.tables.now c.loop-index.index c.loop-index.signals.items c.loop-index.taken.items c.in_ok-tables.ensures.tables c.loop-index-test.false c.loop-index.invariant)

pub returns-clause-few : goal.returns-clause-few
returns-clause-few c =
    let all = all_read IsSignalTable [] (tables_at key.Signal (own c.args.top.now)) c.in_ok-tables.tables.now c.loop-index.index c.loop-index.signals.items c.loop-index.taken.items c.in_ok-tables.ensures.tables c.loop-index-test.false c.loop-index.invariant in
    let len = all.len in
    grind (arith, nat_tests, c.in_ok-tables.ensures.few)
