use Rattle.sdl_run_laws.proofs.Picking.{second_enters, first_does_not_enter}
use Rattle.sdl_run_laws.proofs.picks.arrivals_take_their_pick.Goals as goal

pub returns-clause-second : goal.returns-clause-second
returns-clause-second c = second_enters

pub returns-clause-not_the_first : goal.returns-clause-not_the_first
returns-clause-not_the_first c = first_does_not_enter
