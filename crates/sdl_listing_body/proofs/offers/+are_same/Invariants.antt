use Rattle.std.proofs.Common.{length}
use Rattle.sdl_listing_body.proofs.offers.+are_same.Given as goal

-- the sorts that are left
abbrev pub decreases-are_same : goal.decreases-are_same
decreases-are_same l = length l.a.now
