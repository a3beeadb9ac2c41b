use Rattle.sdl_run_join.proofs.Stands.{at_work, none_astray}
use Rattle.sdl_run_join.proofs.laws.stands_joined.Goals as goal

pub returns-clause-work : goal.returns-clause-work
returns-clause-work g c = at_work _

pub returns-clause-none : goal.returns-clause-none
returns-clause-none g c = none_astray _
