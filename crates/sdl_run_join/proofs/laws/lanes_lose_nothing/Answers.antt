use Rattle.sdl_run_join.proofs.Rows.{one_left, one_lost, one_more}
use Rattle.sdl_run_join.proofs.laws.lanes_lose_nothing.Goals as goal

pub returns : goal.returns
returns c = record { left = one_left; lost = one_lost; more = one_more }
