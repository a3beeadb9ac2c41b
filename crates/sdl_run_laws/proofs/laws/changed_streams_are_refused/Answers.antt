use Rattle.sdl_run_laws.proofs.Changed.{unread, other_worker, other_value, bad_line, unwritten, written_twice, other_text, no_fault, stopped_short}
use Rattle.sdl_run_laws.proofs.laws.changed_streams_are_refused.Goals as goal

pub returns-clause-unread : goal.returns-clause-unread
returns-clause-unread c = unread

pub returns-clause-other_worker : goal.returns-clause-other_worker
returns-clause-other_worker c = other_worker

pub returns-clause-other_value : goal.returns-clause-other_value
returns-clause-other_value c = other_value

pub returns-clause-bad_line : goal.returns-clause-bad_line
returns-clause-bad_line c = bad_line

pub returns-clause-unwritten : goal.returns-clause-unwritten
returns-clause-unwritten c = unwritten

pub returns-clause-written_twice : goal.returns-clause-written_twice
returns-clause-written_twice c = written_twice

pub returns-clause-other_text : goal.returns-clause-other_text
returns-clause-other_text c = other_text

pub returns-clause-no_fault : goal.returns-clause-no_fault
returns-clause-no_fault c = no_fault

pub returns-clause-stopped_short : goal.returns-clause-stopped_short
returns-clause-stopped_short c = stopped_short
