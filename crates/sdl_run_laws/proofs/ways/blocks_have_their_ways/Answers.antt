use Rattle.sdl_run_laws.proofs.Serving.{own_ways}
use Rattle.sdl_run_laws.proofs.ways.blocks_have_their_ways.Goals as goal

pub returns : goal.returns
returns c = own_ways
