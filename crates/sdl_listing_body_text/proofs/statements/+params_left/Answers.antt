use Rattle.sdl_listing_body_text.proofs.BodyLemmas.{reads_left}
use Rattle.sdl_listing_body_text.proofs.statements.+params_left.Goals as goal

pub returns-in_ok-params-in-len1-up-clause-spelled : goal.returns-in_ok-params-in-len1-up-clause-spelled
returns-in_ok-params-in-len1-up-clause-spelled t c =
    reads_left c.args.meanings.now c.in_ok-value-in-len1-up.value c.in_ok-others-in-len1-up.others c.in_ok-params-in-len1-up.params
    c.in_ok-params-in-len1-up.ensures.first c.in_ok-behind-in-len1-up.ensures.read c.in_ok-value-in-len1-up.ensures.spelled c.in_ok-others-in-len1-up.ensures.spelled
