use Rattle.sdl_listing_body.proofs.Conforming.{conforming}
use Rattle.sdl_listing_body.proofs.laws.steps_conform.Goals as goal

pub returns : goal.returns
returns c = conforming
