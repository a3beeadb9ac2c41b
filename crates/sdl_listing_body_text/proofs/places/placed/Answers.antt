use Rattle.std.proofs.Common.{arith}
use Rattle.sdl_listing_body_text.proofs.Texts.{one_within}
use Rattle.sdl_listing_body_text.proofs.places.placed.Goals as goal

pub overflow_add-result : goal.overflow_add-result
overflow_add-result c =
    let inside = one_within c.args.text.now c.args.tokens.now c.in-Some.token.now c.requires c.in-Some.ensures in
    omega (arith, inside)

pub returns-in-Some : goal.returns-in-Some
returns-in-Some c =
    let inside = one_within c.args.text.now c.args.tokens.now c.in-Some.token.now c.requires c.in-Some.ensures in
    (omega (arith, inside), omega (arith, inside))
