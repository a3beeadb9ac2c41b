use Rattle.std.proofs.Common.{refl, inl, inr}
use Rattle.sdl_listing_body_text.proofs.Reading.{reads_nothing, reads_as, reads_then}
use Rattle.sdl_listing_body.specs.declared.syntax.Goal.TheVariants as goals
use Rattle.sdl_listing_body_text.specs.Statements.{IsGoal}
use Rattle.sdl_listing_body_text.proofs.statements.read_goal.Goals as goal

pub returns-then-not-has_word-clause-spelled : goal.returns-then-not-has_word-clause-spelled
returns-then-not-has_word-clause-spelled c = reads_nothing (IsGoal c.args.meanings.now goals.Anywhere) c.args.at.tokens.now (inl (refl, refl))

pub returns-clause-spelled : goal.returns-clause-spelled
returns-clause-spelled c = reads_as (λ ts p. inr p) (reads_then c.in_ok-behind.ensures.read c.in_ok-to.ensures.spelled)
