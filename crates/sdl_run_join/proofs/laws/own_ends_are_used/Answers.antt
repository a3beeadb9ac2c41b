use Rattle.sdl_run_join.proofs.Unused.{used_each}
use Rattle.sdl_run_join.proofs.laws.own_ends_are_used.Goals as goal

pub returns : goal.returns
returns c = used_each
