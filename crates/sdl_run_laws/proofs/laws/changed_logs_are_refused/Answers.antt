use Rattle.sdl_run_laws.proofs.Altered.{misstamped, other_answer, misnumbered, lost, made_up, output_twice, strayed, caused_itself}
use Rattle.sdl_run_laws.proofs.laws.changed_logs_are_refused.Goals as goal

pub returns-clause-misstamped : goal.returns-clause-misstamped
returns-clause-misstamped c = misstamped

pub returns-clause-other_answer : goal.returns-clause-other_answer
returns-clause-other_answer c = other_answer

pub returns-clause-misnumbered : goal.returns-clause-misnumbered
returns-clause-misnumbered c = misnumbered

pub returns-clause-lost : goal.returns-clause-lost
returns-clause-lost c = lost

pub returns-clause-made_up : goal.returns-clause-made_up
returns-clause-made_up c = made_up

pub returns-clause-output_twice : goal.returns-clause-output_twice
returns-clause-output_twice c = output_twice

pub returns-clause-strayed : goal.returns-clause-strayed
returns-clause-strayed c = strayed

pub returns-clause-caused_itself : goal.returns-clause-caused_itself
returns-clause-caused_itself c = caused_itself
