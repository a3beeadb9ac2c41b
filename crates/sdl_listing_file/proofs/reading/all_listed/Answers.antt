use Rattle.std.proofs.Common.{◌∙◌, sym}
use Rattle.std.proofs.lemmas.List.{nil_from_length}
use Rattle.sdl_listing_file.proofs.SlotLemmas.{moved_more, moved_all}
use Rattle.sdl_listing_file.proofs.reading.all_listed.Goals as goal

pub loop-slot-preserved : goal.loop-slot-preserved
loop-slot-preserved c = record {
  can_next = tt;
  is_finite = tt;
  moved = rw c.in_ok-push-in-Some-slot.ensures.items (moved_more c.loop-slot.listing.items c.in-Some-slot.listed c.in-Some.slot c.loop-slot.slot-iterator.rest.items c.next.new.self.rest.items c.args.slots.items c.loop-slot.invariant.moved c.in-Some.ensures.steps.0 c.in-Some-slot.is);
}

pub returns-clause-slots : goal.returns-clause-slots
returns-clause-slots c =
    let left = c.loop-slot.slot-iterator.rest in
    let none = nil_from_length left.items (sym left.ok.0 ∙ c.in-None.ensures.steps.0) in
    moved_all c.loop-slot.listing.items left.items c.args.slots.items c.loop-slot.invariant.moved none
