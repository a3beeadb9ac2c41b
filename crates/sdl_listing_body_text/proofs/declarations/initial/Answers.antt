use Rattle.std.proofs.Common.{refl, inl, inr}
use Rattle.sdl_listing_body_text.specs.Declarations.{IsInitial}
use Rattle.sdl_listing_body_text.proofs.Reading.{reads_as, reads_nothing, reads_then}
use Rattle.sdl_listing_body_text.proofs.declarations.initial.Goals as goal

pub returns-then-left-eq0-clause-spelled : goal.returns-then-left-eq0-clause-spelled
returns-then-left-eq0-clause-spelled c =
    reads_nothing (IsInitial c.args.constants.now c.args.sort c.blank.result) c.args.at.tokens.now (inl (c.blank.ensures.value, refl))

pub returns-clause-spelled : goal.returns-clause-spelled
returns-clause-spelled c = reads_as (λ ts p. inr p) (reads_then c.in_ok-behind.ensures.read c.in_ok-value.ensures)
