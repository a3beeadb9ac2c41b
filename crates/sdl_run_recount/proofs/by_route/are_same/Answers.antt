use Rattle.sdl_run_recount.proofs.SameItems.{items_match}
use Rattle.sdl_run_recount.proofs.by_route.are_same.Goals as goal

pub returns : goal.returns
returns c = items_match c.eq.result c.args.left.now c.args.right.now c.eq.ensures
