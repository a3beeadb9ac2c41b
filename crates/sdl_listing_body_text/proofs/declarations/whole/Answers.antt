use Rattle.std.proofs.Common.{ℤ, sym, subst, inl, rules, w64}
use Rattle.std.proofs.lemmas.Int.{to_z-of_z}
use mir.Val.{SFits}
use Rattle.sdl_signal.specs.declared.values.Value.TheVariants as value
use Rattle.sdl_listing_expression_text.specs.Spelling.{Reads}
use Rattle.sdl_listing_body_text.specs.Declarations.{IsLiteralValue}
use Rattle.sdl_listing_body_text.proofs.Reading.{reads_as}
use Rattle.sdl_listing_body_text.proofs.declarations.whole.Goals as goal

pub returns-clause-spelled : goal.returns-clause-spelled
returns-clause-spelled c =
    let z = c.in_ok-number.number in
    let fits : SFits w64 z = search rules in
    subst (λ (x : ℤ). Reads (IsLiteralValue (value.Integer x)) c.args.at.tokens.now c.in_ok-number.rest.tokens.now) (sym (to_z-of_z w64 z fits))
    (reads_as (λ ts p. inl p) c.in_ok-number.ensures.read)
