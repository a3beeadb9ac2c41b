use Rattle.sdl_run_laws.proofs.Serving.{ways_on}
use Rattle.sdl_run_laws.proofs.ways.forwarders_have_their_ways.Goals as goal

pub returns : goal.returns
returns c = ways_on
