use Rattle.sdl_listing_body_text.proofs.Texts.{among}
use Rattle.sdl_listing_body_text.proofs.places.token_left.Goals as goal

pub returns : goal.returns
returns c = among c.args.tokens.now _ c.get.result c.get.ensures.lookup.3
