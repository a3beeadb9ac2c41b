use Rattle.sdl_routes.proofs.Counting.{one_table}
use Rattle.sdl_routes.proofs.laws.table_is_determined.Goals as goal

pub returns : goal.returns
returns c = one_table c.args.checked.now
