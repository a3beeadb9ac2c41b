use Rattle.std.proofs.Common.{length}
use Rattle.sdl_listing_binding.proofs.soundness.+are_sound.Given as goal

abbrev pub decreases-are_sound : goal.decreases-are_sound
decreases-are_sound l = length l.sets.now
