use Rattle.std.proofs.Common.{sym, ◌∙◌}
use Rattle.std.proofs.lemmas.Result.{IfOk-weaker}
use Rattle.sdl_listing_body_text.proofs.BodyLemmas.{braced_follows, apart_follows, semicolon_follows, brace_follows}
use Rattle.sdl_listing_body_text.specs.Statements.{is_braced}
use Rattle.sdl_listing_body_text.proofs.bodies.separated.Goals as goal

pub returns-then-is_braced : goal.returns-then-is_braced
returns-then-is_braced c = braced_follows _ c.args.at.tokens.now (sym c.is_braced.ensures ∙ c.if-is_braced.true)

pub returns-then-has_sign : goal.returns-then-has_sign
returns-then-has_sign c = semicolon_follows _ c.args.at.tokens.now (c.has_sign.ensures.0 c.if-has_sign.true)

pub returns-then-has_sign-2 : goal.returns-then-has_sign-2
returns-then-has_sign-2 c = brace_follows _ c.args.at.tokens.now (c.has_sign-2.ensures.0 c.if-has_sign-2.true)

pub returns : goal.returns
returns c = IfOk-weaker _ _ _ (λ _ h. apart_follows (is_braced c.args.statement.now) c.args.at.tokens.now h) c.fresh.ensures
