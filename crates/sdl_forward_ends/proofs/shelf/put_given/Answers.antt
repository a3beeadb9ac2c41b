use Rattle.std.proofs.Common.{◌≡◌, Option, length, ap, arith}
use Rattle.std.specs.Option.{option_to_list}
use Rattle.sdl_forward_ends.proofs.shelf.put_given.Goals as goal

pub returns-in-Some-clause-room : goal.returns-in-Some-clause-room
returns-in-Some-clause-room g c =
    let one : length (option_to_list c.args.given) ≡ 1 = ap (λ (o : Option _). length (option_to_list o)) c.in-Some.is in
    λ more h. c.put_last.ensures.room more (omega (arith, h, one))
