use Rattle.sdl_forward.proofs.Onward.{answered_passed}
use Rattle.sdl_stepper_calls.proofs.desk.put_along.Goals as goal

pub put_with_retry-requires : goal.put_with_retry-requires
put_with_retry-requires c =
    c.requires.every c.in-Some.station
    (answered_passed c.args.routes.now c.args.route.0 c.args.after c.in-Some.station c.in-Some.ensures.known c.in-Some.ensures.unknown)
