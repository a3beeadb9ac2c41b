use Rattle.std.proofs.Common.{length}
use Rattle.sdl_listing_binding.proofs.soundness.+are_sound_rows.Given as goal

abbrev pub decreases-are_sound_rows : goal.decreases-are_sound_rows
decreases-are_sound_rows l = length l.rows.now
