use Rattle.sdl_run_laws.proofs.Serving.{gate_ways}
use Rattle.sdl_run_laws.proofs.ways.gates_have_their_ways.Goals as goal

pub returns : goal.returns
returns c = gate_ways
