use Rattle.sdl_run_laws.proofs.Running.{lawful}
use Rattle.sdl_run_laws.proofs.Ending.{headline}
use Rattle.sdl_run_laws.proofs.laws.echo_is_lawful.Goals as goal

pub returns-clause-lawful : goal.returns-clause-lawful
returns-clause-lawful c = lawful

pub returns-clause-headline : goal.returns-clause-headline
returns-clause-headline c = headline
