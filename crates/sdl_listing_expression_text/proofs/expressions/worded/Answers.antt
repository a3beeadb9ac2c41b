use Rattle.std.proofs.Common.{◌∙◌}
use Rattle.sdl_listing_expression_text.proofs.Spelled.{reads_from, reads_word_of}
use Rattle.sdl_listing_expression_text.proofs.expressions.worded.Goals as goal

pub returns-in_ok-rest-in-Some-clause-read : goal.returns-in_ok-rest-in-Some-clause-read
returns-in_ok-rest-in-Some-clause-read c =
    reads_word_of c.args.word c.in-Some.value c.in-Some.ensures (reads_from (c.looked_up.ensures ∙ c.in_ok-counted-in-Some.ensures.tokens) c.in_ok-rest-in-Some.ensures.read)
