use Rattle.sdl_run_laws.proofs.Picking.{third_starts, first_does_not_start}
use Rattle.sdl_run_laws.proofs.picks.turns_take_their_pick.Goals as goal

pub returns-clause-third : goal.returns-clause-third
returns-clause-third c = third_starts

pub returns-clause-not_the_first : goal.returns-clause-not_the_first
returns-clause-not_the_first c = first_does_not_start
