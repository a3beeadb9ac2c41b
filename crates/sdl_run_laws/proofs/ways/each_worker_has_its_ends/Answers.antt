use Rattle.sdl_forward_opening.proofs.Standing.{own_ends}
use Rattle.sdl_run_laws.proofs.ways.each_worker_has_its_ends.Goals as goal

pub returns : goal.returns
returns c = own_ends
