use Rattle.sdl_listing_body_text.proofs.BodyLemmas.{reads_params}
use Rattle.sdl_listing_body_text.proofs.statements.some_params.Goals as goal

pub returns-clause-spelled : goal.returns-clause-spelled
returns-clause-spelled c =
    reads_params c.args.meanings.now c.in_ok-value.value c.in_ok-others.others c.in_ok-params.params c.in_ok-params.ensures.first c.in_ok-behind.ensures.read
    c.in_ok-value.ensures.spelled c.in_ok-others.ensures.spelled
