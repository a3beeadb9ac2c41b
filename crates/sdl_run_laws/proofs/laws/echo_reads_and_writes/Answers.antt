use Rattle.sdl_run_laws.proofs.Reading.{reads, writes}
use Rattle.sdl_run_laws.proofs.laws.echo_reads_and_writes.Goals as goal

pub returns-clause-reading : goal.returns-clause-reading
returns-clause-reading c = reads

pub returns-clause-writing : goal.returns-clause-writing
returns-clause-writing c = writes
