use Rattle.sdl_run_order.proofs.Keeps.{steps_keep}
use Rattle.sdl_run_order.proofs.laws.outlasts_steps.Goals as goal

pub returns : goal.returns
returns c = steps_keep
