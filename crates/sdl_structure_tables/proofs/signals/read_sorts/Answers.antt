use Rattle.std.proofs.Common.{rules, arith, ◌≡◌, ◌<◌, Some, length, sym, ap, refl, ◌∙◌}
use Rattle.std.proofs.lemmas.Bool.Decides.{nat_tests}
use Rattle.toml.specs.View.{view}
use Rattle.sdl_structure_tables.specs.declared.place.Key.TheVariants as key
use Rattle.sdl_structure_tables.specs.Names.{NamesSort}
use Rattle.sdl_structure_tables.specs.Walks.{own}
use Rattle.sdl_structure_tables.proofs.SignalLemmas.{zip_more, lists_all, unknown}
use Rattle.sdl_structure_tables.proofs.signals.read_sorts.Goals as goal

pub push-requires : goal.push-requires
push-requires c = grind (arith, nat_tests)

pub returns-in-None-clause-fault : goal.returns-in-None-clause-fault
returns-in-None-clause-fault c = unknown _ _ key.Sorts c.in_ok-texts.texts.now c.loop-value.value-index c.value-item.result c.text_of.result.now c.requires.here (rw c.requires.part refl) c.at.ensures c.in_ok-texts.ensures.held c.loop-value-test.true c.value-item.is c.text_of.ensures (λ (s, same). c.in-None.ensures.none s same)

pub loop-value-preserved : goal.loop-value-preserved
loop-value-preserved c = record {
  named = rw c.push.ensures.items (zip_more (λ v s. NamesSort (view v) s) c.in_ok-texts.texts.now c.loop-value.sorts.items c.loop-value.value-index c.value-item.result c.in-Some.sort c.loop-value-test.true c.value-item.is c.loop-value.invariant.named (c.text_of.ensures ∙ ap Some (sym c.in-Some.ensures.found)));
  long = omega (arith, c.push.ensures.len, c.loop-value.invariant.long);
}

pub returns-clause-read : goal.returns-clause-read
returns-clause-read c = lists_all NamesSort key.Sorts (own c.args.walk.now) c.in_ok-texts.texts.now _ c.loop-value.value-index c.in_ok-texts.ensures.held c.loop-value-test.false c.loop-value.invariant.named

pub returns-clause-few : goal.returns-clause-few
returns-clause-few c = grind (arith, nat_tests)
