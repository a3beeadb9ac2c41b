use Rattle.std.proofs.Common.{◌<◌, map, arith}
use Rattle.std.specs.Option.{option_to_list}
use Rattle.sdl_forward.specs.Boards.{lists_of}
use Rattle.sdl_run_outcome.specs.Lists.{held_in}
use Rattle.sdl_run_recount.proofs.Places.{none_passed, one_passed, all_passed}
use Rattle.sdl_run_recount.proofs.trail.Trail.add_standing.Goals as goal

pub loop-passed-init : goal.loop-passed-init
loop-passed-init c = none_passed c.args.routes.now c.args.workers.now (map (λ h. option_to_list (held_in h).kept) c.args.hands.now) (lists_of c.args.rests.now) 10 c.args.self.now

pub loop-passed-preserved : goal.loop-passed-preserved
loop-passed-preserved c =
    let less : c.loop-passed.passed < 10 = c.loop-passed-test.true in
    one_passed c.args.routes.now c.args.workers.now (map (λ h. option_to_list (held_in h).kept) c.args.hands.now) (lists_of c.args.rests.now) 10 c.loop-passed.passed _ less (omega arith) c.loop-passed.invariant c.in_ok-add_place.ensures

pub returns : goal.returns
returns c =
    let done = c.loop-passed-test.false in
    all_passed c.args.routes.now c.args.workers.now (map (λ h. option_to_list (held_in h).kept) c.args.hands.now) (lists_of c.args.rests.now) 10 c.loop-passed.passed (omega arith) c.loop-passed.invariant
