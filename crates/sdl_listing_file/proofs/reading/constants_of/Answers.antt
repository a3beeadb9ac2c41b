use Rattle.std.proofs.Common.{◌∙◌, refl}
use Rattle.sdl_listing_file.specs.declared.place.AgentsKey.TheVariants as key
use Rattle.sdl_listing_file.proofs.FileLemmas.{constants_more, constants_all}
use Rattle.sdl_listing_file.proofs.FaultLemmas.{placed_in_list}
use Rattle.sdl_listing_file.proofs.reading.constants_of.Goals as goal

pub loop-item-preserved : goal.loop-item-preserved
loop-item-preserved c = rw c.in_ok-push-in-Ok.ensures.items (constants_more c.args.structure.now c.in_ok-texts.texts.now c.loop-item.item c.index-texts-item.result c.as_bytes-text.result.now c.loop-item.constants.items c.in-Ok.constant c.loop-item-test.true c.index-texts-item.is (c.as_bytes-text.ensures.value ∙ c.text_of.ensures) c.loop-item.invariant (rw c.as_slice.ensures.value at c.in-Ok.ensures.spelled))

pub returns-in-Err-clause-fault : goal.returns-in-Err-clause-fault
returns-in-Err-clause-fault c = placed_in_list c.args.top.now c.at-place.result key.Constants c.in_ok-texts.texts.now c.loop-item.item c.index-texts-item.result c.as_bytes-text.result.now _ c.requires c.at-place.ensures.value c.at-place.ensures.place (λ ms. refl) c.in_ok-texts.ensures.texts c.loop-item-test.true c.index-texts-item.is (c.as_bytes-text.ensures.value ∙ c.text_of.ensures) (c.text_fault.ensures.within c.as_bytes-text.result.now c.in-Err.ensures.place)

pub returns-clause-read : goal.returns-clause-read
returns-clause-read c = constants_all c.args.structure.now c.in_ok-texts.texts.now c.loop-item.item _ c.loop-item.constants.items c.in_ok-texts.ensures.texts c.loop-item-test.false c.loop-item.invariant
