use Rattle.std.proofs.Common.{◌≡◌, false}
use Rattle.sdl_listing_body_text.proofs.rows.parameter.Goals as goal

pub returns-clause-free : goal.returns-clause-free
returns-clause-free c =
    let free : c.is_taken.result ≡ false = c.if-is_taken.false in
    record {
      set = c.is_taken.ensures.set free;
      constant = c.is_taken.ensures.constant free;
      parameter = c.is_taken.ensures.parameter free;
      variable = c.in_ok-variable_fits.ensures;
    }
