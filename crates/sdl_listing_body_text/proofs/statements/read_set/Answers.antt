use Rattle.std.proofs.Common.{sym}
use Rattle.sdl_listing_body_text.proofs.Reading.{reads_set}
use Rattle.sdl_listing_body_text.proofs.statements.read_set.Goals as goal

pub returns-in-Some-clause-spelled : goal.returns-in-Some-clause-spelled
returns-in-Some-clause-spelled c = reads_set c.args.meanings.now c.in-Some.set _ (sym c.in-Some.ensures) c.in_ok-text.ensures.read
