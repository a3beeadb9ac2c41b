use Rattle.sdl_listing_body.specs.Offering.{output_of}
use Rattle.sdl_listing_body.proofs.Room.{no_output, no_create, no_first, no_second}
use Rattle.sdl_listing_body.proofs.offers.+collect.Goals as goal
use Rattle.sdl_listing_body.proofs.offers.+collect.Goals.{then-collect, else-collect}

pub returns-else-add_output-clause-room : goal.returns-else-add_output-clause-room
returns-else-add_output-clause-room t c =
    rw c.in-Output.is (no_output c.add_output.result c.in-Output.rest.value c.args.offer.now (output_of c.in-Output.signal c.in-Output.params c.in-Output.via) c.offered.result c.offered.ensures c.add_output.ensures.room c.if-add_output.false)

pub returns-else-add_create-clause-room : goal.returns-else-add_create-clause-room
returns-else-add_create-clause-room t c =
    rw c.in-Create.is (no_create c.add_create.result c.in-Create.rest.value c.args.offer.now c.in-Create.set c.add_create.ensures.room c.if-add_create.false)

pub returns-else-collect-2-clause-room : goal.returns-else-collect-2-clause-room
returns-else-collect-2-clause-room t c = elim c.if-collect.branch [
  | then-collect w ↦ rw c.in-If.is (no_second c.if-collect.value c.collect-in-If.result w.collect-then-collect.result c.deref-in-If.result.now w.deref-then-collect.result.now c.in-If.yes.value c.in-If.no.value c.in-If.rest.value c.args.offer.now c.collect-in-If.new.offer c.deref-in-If.ensures w.deref-then-collect.ensures c.collect-in-If.ensures.added w.if-collect.true w.collect-then-collect.ensures.room w.value-is c.if-collect-2.false)
  | else-collect w ↦ rw c.in-If.is (no_first c.if-collect.value c.collect-in-If.result c.deref-in-If.result.now c.in-If.yes.value c.in-If.no.value c.in-If.rest.value c.args.offer.now c.deref-in-If.ensures c.collect-in-If.ensures.room w.if-collect.false c.if-collect-2.false)
]
