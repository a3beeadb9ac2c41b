use Rattle.std.proofs.Common.{◌∙◌}
use Rattle.sdl_listing_body_text.proofs.Reading.{reads_from, reads_and, reads_then}
use Rattle.sdl_listing_body_text.proofs.statements.read_output.Goals as goal

pub returns-clause-spelled : goal.returns-clause-spelled
returns-clause-spelled c =
    reads_and (c.in_ok-params.ensures.sorts ∙ c.sorts-sorts.ensures.value)
    (reads_then c.in_ok-word.ensures.read
    (reads_then (reads_from c.acted-behind.ensures.tokens c.in_ok-signal.ensures.spelled)
    (reads_then c.in_ok-params.ensures.spelled (reads_then c.in_ok-to.ensures.spelled c.in_ok-via.ensures.spelled))))
