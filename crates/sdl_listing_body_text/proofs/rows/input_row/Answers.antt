use Rattle.std.proofs.Common.{Some, refl}
use Rattle.sdl_listing_expression_text.specs.declared.setting.Meanings.{Meanings}
use Rattle.sdl_listing_body_text.proofs.RowLemmas.{input_of}
use Rattle.sdl_listing_body_text.proofs.rows.input_row.Goals as goal

pub returns-clause-row : goal.returns-clause-row
returns-clause-row c = (c.declared-signal.result, c.declared-signal.ensures.sorts, c.in_ok-row.ensures.row)

pub returns-clause-spelled : goal.returns-clause-spelled
returns-clause-spelled c =
    let m : Meanings = record { setting = c.args.setting.now; state = Some c.args.state; names = c.as_slice.result; sorts = c.sorts.result } in
    input_of c.args.setting.now m c.args.state c.in_ok-signal.signal c.declared-signal.result c.in_ok-row.row c.in_ok-body.body c.read_head.new.names.items
    c.new-at.result.tokens.now c.in_ok-signal.rest.tokens.now c.args.tokens.now c.in_ok-row.ensures.row.signal c.declared-signal.ensures.id c.in_ok-row.ensures.body
    c.new-at.ensures.tokens c.as_slice.ensures.value (record { setting = refl; state = refl; sorts = c.sorts.ensures.value }) c.in_ok-signal.ensures c.in_ok-body.ensures
