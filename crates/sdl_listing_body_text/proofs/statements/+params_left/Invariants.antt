use Rattle.std.proofs.Common.{length}
use Rattle.sdl_listing_body_text.proofs.statements.+params_left.Given as goal

abbrev pub decreases-params_left : goal.decreases-params_left
decreases-params_left l = length l.sorts.now
