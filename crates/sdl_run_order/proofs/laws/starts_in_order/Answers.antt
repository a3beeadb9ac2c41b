use Rattle.sdl_run_order.proofs.Between.{starts_in_order}
use Rattle.sdl_run_order.proofs.laws.starts_in_order.Goals as goal

pub returns : goal.returns
returns g c = starts_in_order g.S.Agents.may
