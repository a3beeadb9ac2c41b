use Rattle.std.proofs.Common.{arith}
use Rattle.std.proofs.lemmas.Bool.Decides.{nat_tests}
use Rattle.sdl_listing_file.proofs.NameLemmas.{found_more, found_all}
use Rattle.sdl_listing_file.proofs.groups.states_of.Goals as goal

pub add_found-requires : goal.add_found-requires
add_found-requires c = grind (arith, nat_tests)

pub loop-value-preserved : goal.loop-value-preserved
loop-value-preserved c = record {
  found = found_more c.args.setting.now c.in_ok-texts.texts.now c.loop-value.value-index c.value-item.result c.text_of.result.now c.loop-value.found.items _ c.loop-value-test.true c.value-item.is c.text_of.ensures c.loop-value.invariant.found c.add_found.ensures.found;
  few = omega (arith, c.add_found.ensures.few, c.loop-value.invariant.few);
}

pub returns-clause-states : goal.returns-clause-states
returns-clause-states c = found_all c.args.setting.now c.in_ok-texts.texts.now c.loop-value.value-index _ _ c.in_ok-texts.ensures.texts c.loop-value-test.false c.loop-value.invariant.found
