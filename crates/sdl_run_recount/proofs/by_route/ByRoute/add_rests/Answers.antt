use Rattle.std.proofs.Common.{ap}
use Rattle.sdl_queue.specs.Rest.{left_in}
use Rattle.sdl_run_recount.specs.Along.{stands_at}
use Rattle.sdl_run_recount.proofs.Sorting.{rests_then}
use Rattle.sdl_run_recount.proofs.by_route.ByRoute.add_rests.Goals as goal

pub loop-number-preserved : goal.loop-number-preserved
loop-number-preserved c =
    rests_then (stands_at c.args.routes.now c.args.place) c.args.rests.now c.loop-number.number c.index-rests-number.result c.in-Some.queue.now c.loop-number-test.true c.index-rests-number.is (ap left_in c.in-Some.ensures)
    c.loop-number.invariant c.in_ok-add_queue.ensures
