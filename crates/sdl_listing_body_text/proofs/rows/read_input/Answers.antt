use Rattle.std.proofs.lemmas.Option.{IfSome_then}
use Rattle.sdl_listing_body_text.specs.Rows.{IsInput}
use Rattle.sdl_listing_body_text.proofs.Texts.{text_of, all_within}
use Rattle.sdl_listing_body_text.proofs.rows.read_input.Goals as goal

pub returns-in-Ok-input_row-clause-spelled : goal.returns-in-Ok-input_row-clause-spelled
returns-in-Ok-input_row-clause-spelled c =
    IfSome_then c.in-Ok-input_row.row.signal c.in-Ok-input_row.ensures.spelled
    (λ signal p. text_of (IsInput c.args.setting.now c.args.state signal.id c.in-Ok-input_row.row.body) c.args.text.now c.in-Ok.tokens.items c.as_slice-all.result.now
    c.as_slice-all.ensures.value c.in-Ok.ensures.tokens p)

pub refused-requires : goal.refused-requires
refused-requires c = all_within c.args.text.now c.in-Ok.tokens.items c.as_slice-all.result.now c.as_slice-all.ensures.value c.in-Ok.ensures.within
