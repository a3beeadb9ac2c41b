use Rattle.sdl_run_outcome.specs.Plan.{MayTravel, ways_of}
use Rattle.sdl_run_outcome.proofs.Ways.{ways_are}
use Rattle.sdl_run_join.proofs.Legal.{standing_all}
use Rattle.sdl_run_join.proofs.laws.stays_legal.Goals as goal

pub returns : goal.returns
returns c plan b ok order sent s = standing_all (ways_of plan) b (MayTravel plan) (ways_are plan ok) order sent s
