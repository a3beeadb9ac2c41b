use Rattle.sdl_run_laws.proofs.Picking.{takes_second, does_not_take_first}
use Rattle.sdl_run_laws.proofs.picks.lines_take_their_pick.Goals as goal

pub returns-clause-second : goal.returns-clause-second
returns-clause-second c = takes_second

pub returns-clause-not_the_first : goal.returns-clause-not_the_first
returns-clause-not_the_first c = does_not_take_first
