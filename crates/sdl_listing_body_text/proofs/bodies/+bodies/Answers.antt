use Rattle.std.proofs.Common.{refl, true, inl}
use Rattle.sdl_listing_body_text.proofs.Reading.{reads_as, reads_from, reads_to, reads_then, reads_nothing}
use Rattle.sdl_listing_body_text.proofs.BodyLemmas.{reads_past, reads_first, else_braced, else_decision}
use Rattle.sdl_listing_body.specs.declared.syntax.Body.{Nothing}
use Rattle.sdl_listing_body_text.specs.Statements.{IsBody}
use Rattle.sdl_listing_body_text.proofs.bodies.+bodies.Goals as goal

pub read_body-returns-clause-spelled : goal.read_body-returns-clause-spelled
read_body-returns-clause-spelled t c =
    let m = c.args.meanings.now in
    reads_past m c.in_ok-body.body c.past_semicolons-first.ensures.spelled
    (reads_first m c.in_ok-statement.statement c.in_ok-others.others c.in_ok-body.body c.in_ok-body.ensures
    (reads_from c.in_ok-counted.ensures c.in_ok-statement.ensures.spelled) c.in_ok-separated.ensures (reads_from c.behind-next.ensures c.in_ok-others.ensures.spelled))

pub read_decision-returns-clause-spelled : goal.read_decision-returns-clause-spelled
read_decision-returns-clause-spelled t c =
    reads_to c.joined.ensures.tokens
    (reads_then c.in_ok-behind.ensures.read (reads_then c.in_ok-condition.ensures.spelled
    (reads_then c.in_ok-yes.ensures.spelled (reads_from c.from_ways-other.ensures.tokens c.in_ok-no.ensures.spelled))))

pub braced-returns-clause-spelled : goal.braced-returns-clause-spelled
braced-returns-clause-spelled t c = reads_then c.in_ok-behind.ensures.read (reads_then c.in_ok-inner.ensures.spelled c.in_ok-rest.ensures.read)

pub otherwise-returns-then-not-has_word-clause-spelled : goal.otherwise-returns-then-not-has_word-clause-spelled
otherwise-returns-then-not-has_word-clause-spelled t c = reads_nothing (IsBody c.args.meanings.now Nothing true) c.args.at.tokens.now (inl refl)

pub otherwise-returns-then-not-has_word-2-clause-spelled : goal.otherwise-returns-then-not-has_word-2-clause-spelled
otherwise-returns-then-not-has_word-2-clause-spelled t c =
    reads_as (λ ts p. else_braced c.args.meanings.now c.in_ok-inner.inner ts p) (reads_then c.in_ok-behind.ensures.read c.in_ok-inner.ensures.spelled)

pub otherwise-returns-clause-spelled : goal.otherwise-returns-clause-spelled
otherwise-returns-clause-spelled t c =
    reads_as (λ ts p. else_decision c.args.meanings.now c.in_ok-decision.decision c.in_ok-whole.whole ts c.in_ok-whole.ensures p)
    (reads_then c.in_ok-behind.ensures.read (reads_from c.in_ok-counted.ensures.tokens c.in_ok-decision.ensures.spelled))
