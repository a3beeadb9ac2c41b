use Rattle.std.proofs.Common.{subst}
use Rattle.sdl_listing_tokens.specs.Tokens.{IsBadByte}
use Rattle.sdl_listing_body_text.proofs.places.uncut.Goals as goal

pub bad_byte-requires : goal.bad_byte-requires
bad_byte-requires c = (subst (IsBadByte c.args.text.now) c.in-BadByte.is c.requires).0
