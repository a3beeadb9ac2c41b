use Rattle.std.proofs.Common.{ℤ, sym, subst, rules, w64}
use Rattle.std.proofs.lemmas.Int.{to_z-of_z}
use mir.Val.{SFits}
use Rattle.sdl_listing_expression_text.specs.Spelling.{IsLiteral, Reads}
use Rattle.sdl_listing_expression_text.proofs.Spelled.{reads_digits}
use Rattle.sdl_listing_expression_text.proofs.numbers.integer.Goals as goal

pub returns-in-Some-signed-clause-read : goal.returns-in-Some-signed-clause-read
returns-in-Some-signed-clause-read c =
    let z = c.in-Some-signed.number in
    let fits : SFits w64 z = search rules in
    subst (λ (x : ℤ). Reads (IsLiteral c.args.is_negative x) c.args.at.tokens.now c.in-Some.rest.tokens.now) (sym (to_z-of_z w64 z fits))
    (reads_digits c.args.is_negative z c.in-Some-size_of.size c.in-Some.token c.in-Some.ensures.some c.in-Integer.is c.in-Some-size_of.ensures c.in-Some-signed.ensures.value c.in-Some-signed.ensures.some)
