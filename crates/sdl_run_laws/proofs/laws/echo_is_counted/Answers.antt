use Rattle.sdl_run_laws.proofs.Ending.{counts, balanced}
use Rattle.sdl_run_laws.proofs.laws.echo_is_counted.Goals as goal

pub returns-clause-counts : goal.returns-clause-counts
returns-clause-counts c = counts

pub returns-clause-balanced : goal.returns-clause-balanced
returns-clause-balanced c = balanced
