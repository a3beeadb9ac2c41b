use Rattle.sdl_run_laws.proofs.Ending.{complete, ended}
use Rattle.sdl_run_laws.proofs.laws.echo_has_ended.Goals as goal

pub returns-clause-complete : goal.returns-clause-complete
returns-clause-complete c = complete

pub returns-clause-ended : goal.returns-clause-ended
returns-clause-ended c = ended
