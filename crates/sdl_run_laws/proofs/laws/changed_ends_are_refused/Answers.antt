use Rattle.sdl_run_laws.proofs.Altered.{log_left_out, hand_left_out, station_left_out, not_quiet, not_spent, no_worker, over_budget, misplaced}
use Rattle.sdl_run_laws.proofs.laws.changed_ends_are_refused.Goals as goal

pub returns-clause-log_left_out : goal.returns-clause-log_left_out
returns-clause-log_left_out c = log_left_out

pub returns-clause-hand_left_out : goal.returns-clause-hand_left_out
returns-clause-hand_left_out c = hand_left_out

pub returns-clause-station_left_out : goal.returns-clause-station_left_out
returns-clause-station_left_out c = station_left_out

pub returns-clause-not_quiet : goal.returns-clause-not_quiet
returns-clause-not_quiet c = not_quiet

pub returns-clause-not_spent : goal.returns-clause-not_spent
returns-clause-not_spent c = not_spent

pub returns-clause-no_worker : goal.returns-clause-no_worker
returns-clause-no_worker c = no_worker

pub returns-clause-over_budget : goal.returns-clause-over_budget
returns-clause-over_budget c = over_budget

pub returns-clause-misplaced : goal.returns-clause-misplaced
returns-clause-misplaced c = misplaced
