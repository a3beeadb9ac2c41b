use Rattle.std.proofs.Common.{refl, inl, inr}
use Rattle.sdl_listing_body_text.proofs.Reading.{reads_as, reads_then}
use Rattle.sdl_listing_body_text.proofs.statements.read_end.Goals as goal

pub returns-then-has_word-clause-spelled : goal.returns-then-has_word-clause-spelled
returns-then-has_word-clause-spelled c = reads_as (λ ts p. inl (refl, p)) c.in_ok-rest.ensures.read

pub returns-clause-spelled : goal.returns-clause-spelled
returns-clause-spelled c = reads_as (λ ts p. inr p) (reads_then c.in_ok-behind.ensures.read c.in_ok-next.ensures.spelled)
