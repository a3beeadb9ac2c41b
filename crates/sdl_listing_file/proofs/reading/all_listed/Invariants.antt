use Rattle.std.proofs.Common.{◌≡◌, ◌++◌, Some, map}
use Rattle.sdl_listing_file.proofs.reading.all_listed.Given as goal

abbrev pub invariant-loop-slot : goal.invariant-loop-slot
invariant-loop-slot l = record {
  can_next : goal.iterator-loop-slot.can_next l.slot-iterator;
  is_finite : goal.iterator-loop-slot.is_finite l.slot-iterator;
  moved : map Some l.listing.items ++ l.slot-iterator.rest.items ≡ l.fn.slots.items;
}
