use Rattle.std.proofs.Common.{arith}
use Rattle.sdl_listing_file.proofs.SlotLemmas.{none_more}
use Rattle.sdl_listing_file.proofs.reading.empty_slots.Goals as goal

pub loop-preserved : goal.loop-preserved
loop-preserved c = record { all = omega (arith, c.in_ok-push.ensures.len, c.loop.invariant.all); empty = rw c.in_ok-push.ensures.items (none_more c.loop.slots.items c.loop.invariant.empty) }
