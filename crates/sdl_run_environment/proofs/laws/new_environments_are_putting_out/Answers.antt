use Rattle.sdl_run_environment.proofs.EnvKeeps.{keeps_first}
use Rattle.sdl_run_environment.proofs.laws.new_environments_are_putting_out.Goals as goal

pub returns : goal.returns
returns c = keeps_first
