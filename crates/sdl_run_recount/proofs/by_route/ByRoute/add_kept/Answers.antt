use Rattle.std.proofs.Common.{◌<◌, length, ap, arith}
use Rattle.std.specs.Option.{option_to_list}
use Rattle.sdl_block_hand.specs.declared.hand.Hand.{Hand}
use Rattle.sdl_forward_opening.specs.Workers.{place}
use Rattle.sdl_run_outcome.specs.Lists.{held_in}
use Rattle.sdl_run_recount.specs.Sorted.{lists_in}
use Rattle.sdl_run_recount.specs.Along.{stands_at}
use Rattle.sdl_run_recount.proofs.Sorting.{gathered_nothing, gathered_then}
use Rattle.sdl_run_recount.proofs.by_route.ByRoute.add_kept.Goals as goal

pub loop-number-init : goal.loop-number-init
loop-number-init c = gathered_nothing (λ w r. stands_at c.args.routes.now c.args.place (place w) r) c.args.workers.now (lists_in c.args.self.now)

pub loop-number-preserved : goal.loop-number-preserved
loop-number-preserved c =
    let less : c.loop-number.number < length c.args.hands.now = c.loop-number-test.true in
    let more : c.loop-number.number < length c.args.workers.now = omega arith in
    let kept = λ (h : Hand). option_to_list (held_in h).kept in
    gathered_then (λ w r. stands_at c.args.routes.now c.args.place (place w) r) kept c.args.workers.now c.args.hands.now c.loop-number.number _ c.index-hands-number.result (kept c.index-hands-number.result) more less
    (ap kept c.index-hands-number.is) c.loop-number.invariant c.in_ok-add_held.ensures
