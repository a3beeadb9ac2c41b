use Rattle.sdl_run_join.proofs.Order.{keeps_order}
use Rattle.sdl_run_join.proofs.laws.keeps_order.Goals as goal

pub returns : goal.returns
returns c = keeps_order
