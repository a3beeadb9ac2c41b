use Rattle.sdl_run_laws.proofs.Picking.{names_pairs}
use Rattle.sdl_run_laws.proofs.picks.schedules_name_workers_and_picks.Goals as goal

pub returns : goal.returns
returns c = names_pairs
