use Rattle.sdl_run_laws.proofs.Changed.{one_ledger, one_left, none_fired}
use Rattle.sdl_run_laws.proofs.laws.changed_ledgers_are_refused.Goals as goal

pub returns-clause-one : goal.returns-clause-one
returns-clause-one c = one_ledger

pub returns-clause-one_left : goal.returns-clause-one_left
returns-clause-one_left c = one_left

pub returns-clause-none_fired : goal.returns-clause-none_fired
returns-clause-none_fired c = none_fired
