use Rattle.sdl_listing_body.proofs.Conforming.{conforming}
use Rattle.sdl_listing_body.proofs.filling.fill.Goals as goal

pub returns-clause-conforms : goal.returns-clause-conforms
returns-clause-conforms c = conforming c.args.row.now c.args.frame.now c.put.new.step c.requires.sound.sorts c.requires.frame c.put.ensures.step
