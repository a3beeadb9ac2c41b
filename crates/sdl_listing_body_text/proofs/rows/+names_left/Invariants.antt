use Rattle.std.proofs.Common.{length}
use Rattle.sdl_listing_body_text.proofs.rows.+names_left.Given as goal

abbrev pub decreases-names_left : goal.decreases-names_left
decreases-names_left l = length l.sorts.now
