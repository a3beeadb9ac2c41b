use Rattle.sdl_listing_body_text.specs.Rows.{IsStart}
use Rattle.sdl_listing_body_text.proofs.Texts.{text_of, all_within}
use Rattle.sdl_listing_body_text.proofs.rows.read_start.Goals as goal

pub returns-in-Ok-start_row-clause-spelled : goal.returns-in-Ok-start_row-clause-spelled
returns-in-Ok-start_row-clause-spelled c =
    text_of (IsStart c.args.setting.now c.in-Ok-start_row.row.body) c.args.text.now c.in-Ok.tokens.items c.as_slice-all.result.now c.as_slice-all.ensures.value
    c.in-Ok.ensures.tokens c.in-Ok-start_row.ensures.spelled

pub refused-requires : goal.refused-requires
refused-requires c = all_within c.args.text.now c.in-Ok.tokens.items c.as_slice-all.result.now c.as_slice-all.ensures.value c.in-Ok.ensures.within
