use Rattle.std.proofs.Common.{◌+◌, ◌*◌, ◌-◌, length}
use Rattle.sdl_listing_expression_text.proofs.expressions.+expressions.Given as goal

abbrev pub decreases-operand : goal.decreases-operand
decreases-operand l = 10 * length l.at.tokens.now + (9 - l.level)

abbrev pub decreases-more : goal.decreases-more
decreases-more l = 10 * length l.at.tokens.now

abbrev pub decreases-unary : goal.decreases-unary
decreases-unary l = 10 * length l.at.tokens.now + 3

abbrev pub decreases-primary : goal.decreases-primary
decreases-primary l = 10 * length l.at.tokens.now + 2

abbrev pub decreases-named : goal.decreases-named
decreases-named l = 10 * length l.at.tokens.now + 1

abbrev pub decreases-serial : goal.decreases-serial
decreases-serial l = 10 * length l.at.tokens.now + 1

abbrev pub decreases-bracketed : goal.decreases-bracketed
decreases-bracketed l = 10 * length l.at.tokens.now + 1

abbrev pub decreases-choice : goal.decreases-choice
decreases-choice l = 10 * length l.at.tokens.now + 1
