use Rattle.sdl_run_laws.proofs.Serving.{fresh}
use Rattle.sdl_run_laws.proofs.ways.opened_ends_are_fresh.Goals as goal

pub returns : goal.returns
returns c = fresh
