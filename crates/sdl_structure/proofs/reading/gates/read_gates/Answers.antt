use Rattle.std.proofs.Common.{arith, ◌≡◌, ◌<◌, [], length, map, sym, ap, refl, ◌∙◌, subst}
use Rattle.std.proofs.lemmas.Bool.Decides.{nat_tests}
use Rattle.std.proofs.lemmas.List.{length-map}
use Rattle.sdl_structure_tables.specs.declared.place.Key.TheVariants as key
use Rattle.sdl_structure_tables.specs.Tables.{table_in, tables_at}
use Rattle.sdl_structure.specs.File.{IsGateTable}
use Rattle.sdl_structure_tables.specs.Walks.{own}
use Rattle.sdl_structure_tables.proofs.ListLemmas.{read_more, element, all_read, names_apart, zip_map}
use Rattle.sdl_structure_tables.proofs.PlaceLemmas.{before_gate, gate_keys_inside}
use Rattle.sdl_structure.proofs.reading.gates.read_gates.Goals as goal

pub inner-requires : goal.inner-requires
inner-requires c =
    let vs = c.in_ok-tables.tables.now in
    let e = element key.Gate (own c.args.walk.now) vs c.loop-index.index c.index-tables-index.result c.in_ok-tables.ensures.tables c.in_ok-tables.ensures.each c.loop-index-test.true c.index-tables-index.is in
    let few : length vs < 65536 = grind (arith, nat_tests, c.in_ok-tables.ensures.few) in
    record { here = c.requires.here; listed = c.requires.listed; kind = refl; table = e.table; there = e.there; within = e.within; few = omega (arith, few); no_block = λ e. cc }

pub read_gate-requires : goal.read_gate-requires
read_gate-requires c = record {
  here = c.inner.ensures.here;
  keys = rw c.inner.ensures.version (gate_keys_inside c.args.walk.now.version c.args.walk.now.place c.inner.result.place c.loop-index.index c.requires.listed c.inner.ensures.place);
  before = c.loop-index.invariant.names ∙ sym (before_gate c.args.walk.now c.inner.result c.loop-index.index (map table_in c.in_ok-tables.tables.now) c.requires.here c.requires.listed c.inner.ensures.file c.inner.ensures.place c.in_ok-tables.ensures.tables);
  signals = rw c.inner.ensures.file c.requires.signals;
  few = c.requires.few;
}

pub loop-index-preserved : goal.loop-index-preserved
loop-index-preserved c =
    let g = c.in_ok-gate.gate in
    let r = subst (λ m. IsGateTable c.args.signals.now (c.args.owner, m) g) c.inner.ensures.table c.in_ok-gate.ensures.read in
    rw (c.in_ok-push.ensures.items, c.in_ok-gate.ensures.joined) (read_more (λ m g. IsGateTable c.args.signals.now (c.args.owner, m) g) [] c.in_ok-tables.tables.now c.loop-index.index c.index-tables-index.result c.loop-index.gates.items c.loop-index.taken.items g g.name c.loop-index-test.true c.index-tables-index.is c.loop-index.invariant r r.name.0 c.in_ok-gate.ensures.apart)

pub returns-clause-read : goal.returns-clause-read
returns-clause-read c =
    let all = all_read (λ m g. IsGateTable c.args.signals.now (c.args.owner, m) g) [] (tables_at key.Gate (own c.args.walk.now)) c.in_ok-tables.tables.now c.loop-index.index c.loop-index.gates.items c.loop-index.taken.items c.in_ok-tables.ensures.tables c.loop-index-test.false c.loop-index.invariant in
    zip_map (λ m. (c.args.owner, m)) (IsGateTable c.args.signals.now) (tables_at key.Gate (own c.args.walk.now)) c.loop-index.gates.items all.named

pub returns-clause-rules : goal.returns-clause-rules
returns-clause-rules c =
    let all = all_read (λ m g. IsGateTable c.args.signals.now (c.args.owner, m) g) [] (tables_at key.Gate (own c.args.walk.now)) c.in_ok-tables.tables.now c.loop-index.index c.loop-index.gates.items c.loop-index.taken.items c.in_ok-tables.ensures.tables c.loop-index-test.false c.loop-index.invariant in
    let len : length (tables_at key.Gate (own c.args.walk.now)) ≡ length c.in_ok-tables.tables.now = ap (λ ts. length ts) c.in_ok-tables.ensures.tables ∙ length-map c.in_ok-tables.tables.now table_in in
    record {
      few = grind (arith, nat_tests, c.in_ok-tables.ensures.few);
      apart = names_apart (λ m g. IsGateTable c.args.signals.now (c.args.owner, m) g) _ _ _ c.loop-index.taken.items all;
    }

pub returns-clause-few : goal.returns-clause-few
returns-clause-few c =
    let all = all_read (λ m g. IsGateTable c.args.signals.now (c.args.owner, m) g) [] (tables_at key.Gate (own c.args.walk.now)) c.in_ok-tables.tables.now c.loop-index.index c.loop-index.gates.items c.loop-index.taken.items c.in_ok-tables.ensures.tables c.loop-index-test.false c.loop-index.invariant in
    let len = all.len in
    grind (arith, nat_tests, c.in_ok-tables.ensures.few)
