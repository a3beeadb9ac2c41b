use Rattle.std.proofs.Common.{[], None, refl}
use Rattle.sdl_listing_expression_text.specs.declared.setting.Meanings.{Meanings}
use Rattle.sdl_listing_body_text.proofs.RowLemmas.{start_of}
use Rattle.sdl_listing_body_text.proofs.rows.start_row.Goals as goal

pub returns-clause-spelled : goal.returns-clause-spelled
returns-clause-spelled c =
    let m : Meanings = record {
      setting = c.args.setting.now;
      state = None;
      names = record { ref_ptr = (0, 0); now = [] };
      sorts = record { ref_ptr = (0, 0); now = [] };
    } in
    start_of c.args.setting.now m c.in_ok-body.body c.in_ok-row.row.body c.new-at.result.tokens.now c.args.tokens.now c.in_ok-row.ensures.body c.new-at.ensures.tokens
    (record { setting = refl; state = refl; sorts = refl }) refl c.in_ok-body.ensures
