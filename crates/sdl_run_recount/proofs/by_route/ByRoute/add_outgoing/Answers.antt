use Rattle.std.proofs.Common.{◌<◌, length, arith}
use Rattle.sdl_block_hand.specs.declared.hand.Hand.{Hand}
use Rattle.sdl_forward_opening.specs.Workers.{ways_in}
use Rattle.sdl_run_outcome.specs.Lists.{held_in}
use Rattle.sdl_run_recount.specs.Sorted.{lists_in}
use Rattle.sdl_run_recount.specs.Along.{starts_at}
use Rattle.sdl_run_recount.proofs.Sorting.{gathered_nothing, gathered_then}
use Rattle.sdl_run_recount.proofs.by_route.ByRoute.add_outgoing.Goals as goal

pub loop-number-init : goal.loop-number-init
loop-number-init c = gathered_nothing (starts_at (ways_in c.args.structure.now c.args.routes.now)) c.args.workers.now (lists_in c.args.self.now)

pub loop-number-preserved : goal.loop-number-preserved
loop-number-preserved c =
    let less : c.loop-number.number < length c.args.hands.now = c.loop-number-test.true in
    let more : c.loop-number.number < length c.args.workers.now = omega arith in
    gathered_then (starts_at (ways_in c.args.structure.now c.args.routes.now)) (λ (h : Hand). (held_in h).outgoing) c.args.workers.now c.args.hands.now c.loop-number.number _ c.index-hands-number.result c.as_slice-outgoing.result.now more less
    c.as_slice-outgoing.ensures.value c.loop-number.invariant c.in_ok-add_all_sent.ensures
