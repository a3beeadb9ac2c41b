use Rattle.std.proofs.Common.{arith, ◌∙◌, refl}
use Rattle.std.proofs.lemmas.Bool.Decides.{nat_tests}
use Rattle.sdl_listing_file.specs.declared.place.AgentsKey.TheVariants as key
use Rattle.sdl_listing_file.proofs.FileLemmas.{variables_more, variables_all}
use Rattle.sdl_listing_file.proofs.FaultLemmas.{placed_in_list}
use Rattle.sdl_listing_file.proofs.behaviours.variables_of.Goals as goal

pub push-requires : goal.push-requires
push-requires c = grind (arith, nat_tests)

pub loop-item-preserved : goal.loop-item-preserved
loop-item-preserved c = record {
  read = rw c.push.ensures.items (variables_more c.args.structure.now c.args.constants.now c.in_ok-texts.texts.now c.loop-item.item c.index-texts-item.result c.as_bytes-text.result.now c.loop-item.variables.items c.in-Ok.variable c.loop-item-test.true c.index-texts-item.is (c.as_bytes-text.ensures.value ∙ c.text_of.ensures) c.loop-item.invariant.read (rw c.as_slice.ensures.value at c.in-Ok.ensures.spelled));
  long = omega (arith, c.push.ensures.len, c.loop-item.invariant.long);
}

pub returns-in-Err-clause-fault : goal.returns-in-Err-clause-fault
returns-in-Err-clause-fault c = placed_in_list c.args.walk.now c.at-place.result key.Variables c.in_ok-texts.texts.now c.loop-item.item c.index-texts-item.result c.as_bytes-text.result.now _ c.requires c.at-place.ensures.value c.at-place.ensures.place (λ ms. refl) c.in_ok-texts.ensures.texts c.loop-item-test.true c.index-texts-item.is (c.as_bytes-text.ensures.value ∙ c.text_of.ensures) (c.text_fault.ensures.within c.as_bytes-text.result.now c.in-Err.ensures.place)

pub returns-clause-read : goal.returns-clause-read
returns-clause-read c = variables_all c.args.structure.now c.args.constants.now c.in_ok-texts.texts.now c.loop-item.item _ c.loop-item.variables.items c.in_ok-texts.ensures.texts c.loop-item-test.false c.loop-item.invariant.read
