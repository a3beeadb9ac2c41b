use Rattle.std.proofs.Common.{◌≡◌, false}
use Rattle.sdl_listing_body_text.proofs.DeclarationLemmas.{reads_new_name}
use Rattle.sdl_listing_body_text.proofs.declarations.new_name.Goals as goal

pub returns : goal.returns
returns c =
    let free : c.is_taken.result ≡ false = c.if-is_taken.false in
    reads_new_name c.args.structure.now c.args.constants.now c.in_ok-text.text.now (c.is_taken.ensures.set free) (c.is_taken.ensures.constant free) c.in_ok-text.ensures.read
