use Rattle.sdl_listing_file.proofs.TableLemmas.{texts_at-values}
use Rattle.sdl_listing_file.proofs.walk.Walk.texts.Goals as goal

pub returns-clause-texts : goal.returns-clause-texts
returns-clause-texts c = texts_at-values c.args.key _ c.in_ok-values.values.now c.in_ok-values.ensures.held
