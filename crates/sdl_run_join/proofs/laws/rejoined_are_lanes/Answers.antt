use Rattle.sdl_run_join.proofs.Lanes.{lanes, left_at, stations_are}
use Rattle.sdl_run_join.proofs.laws.rejoined_are_lanes.Goals as goal

pub returns-clause-lanes : goal.returns-clause-lanes
returns-clause-lanes c = lanes

pub returns-clause-left : goal.returns-clause-left
returns-clause-left c = left_at

pub returns-clause-stations : goal.returns-clause-stations
returns-clause-stations c = stations_are
