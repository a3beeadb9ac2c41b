use Rattle.sdl_run_audit.proofs.Passing.{passes}
use Rattle.sdl_run_audit.proofs.laws.a_run_passes.Goals as goal

pub returns : goal.returns
returns g c = passes g.S.Agents.may
