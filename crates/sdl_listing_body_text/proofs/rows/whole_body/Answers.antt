use Rattle.sdl_listing_body_text.proofs.Reading.{reads_all}
use Rattle.sdl_listing_body_text.proofs.rows.whole_body.Goals as goal

pub returns : goal.returns
returns c =
    (c.in_ok-found.found, reads_all _ c.args.at.tokens.now c.in_ok-found.rest.tokens.now c.in_ok-found.ensures.spelled c.in_ok-ended.ensures, c.in_ok-whole.ensures)
