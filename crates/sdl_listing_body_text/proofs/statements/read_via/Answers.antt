use Rattle.std.proofs.Common.{refl, inl, inr}
use Rattle.sdl_listing_body_text.proofs.Reading.{reads_nothing, reads_as, reads_then}
use Rattle.sdl_routes.specs.declared.route.Via.TheVariants as via
use Rattle.sdl_listing_body_text.specs.Statements.{IsVia}
use Rattle.sdl_listing_body_text.proofs.statements.read_via.Goals as goal

pub returns-then-not-has_word-clause-spelled : goal.returns-then-not-has_word-clause-spelled
returns-then-not-has_word-clause-spelled c = reads_nothing (IsVia c.args.meanings.now c.args.signal via.Any) c.args.at.tokens.now (inl (refl, refl))

pub returns-clause-spelled : goal.returns-clause-spelled
returns-clause-spelled c = reads_as (λ ts p. inr p) (reads_then c.in_ok-behind.ensures.read c.in_ok-via.ensures.spelled)
