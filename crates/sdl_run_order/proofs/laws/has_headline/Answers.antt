use Rattle.sdl_run_order.proofs.Whole.{headline}
use Rattle.sdl_run_order.proofs.laws.has_headline.Goals as goal

pub returns : goal.returns
returns g c = headline g.S.Agents.may
