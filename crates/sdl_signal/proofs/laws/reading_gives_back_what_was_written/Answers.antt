use Rattle.sdl_signal.specs.Reading.{line_without_to}
use Rattle.sdl_signal.proofs.OneLine.{one_text, breaks_no_rule, reads_back}
use Rattle.sdl_signal.proofs.laws.reading_gives_back_what_was_written.Goals as goal

pub returns-clause-one_line : goal.returns-clause-one_line
returns-clause-one_line c = one_text

pub returns-clause-no_fault : goal.returns-clause-no_fault
returns-clause-no_fault c = breaks_no_rule

pub returns-clause-back : goal.returns-clause-back
returns-clause-back c = λ names gate signal text read lex h fits e r. reads_back names (line_without_to gate signal) text read lex h fits e r
