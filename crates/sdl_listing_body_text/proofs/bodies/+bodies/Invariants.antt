use Rattle.std.proofs.Common.{◌+◌, ◌*◌, length}
use Rattle.sdl_listing_body_text.proofs.bodies.+bodies.Given as goal

abbrev pub decreases-read_body : goal.decreases-read_body
decreases-read_body l = 3 * length l.at.tokens.now + 2

abbrev pub decreases-read_statement : goal.decreases-read_statement
decreases-read_statement l = 3 * length l.at.tokens.now + 1

abbrev pub decreases-read_decision : goal.decreases-read_decision
decreases-read_decision l = 3 * length l.at.tokens.now

abbrev pub decreases-braced : goal.decreases-braced
decreases-braced l = 3 * length l.at.tokens.now

abbrev pub decreases-otherwise : goal.decreases-otherwise
decreases-otherwise l = 3 * length l.at.tokens.now
