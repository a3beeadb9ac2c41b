use Rattle.std.proofs.Common.{◌≡◌, ◌-◌, suc, arith}
use Rattle.sdl_listing_body_text.proofs.RowLemmas.{none_assigned, more_assigned}
use Rattle.sdl_listing_body_text.proofs.rows.+assigned.Goals as goal

pub returns-then-count-eq0 : goal.returns-then-count-eq0
returns-then-count-eq0 t c = none_assigned c.args.meanings.now c.args.count c.args.body (omega arith)

pub returns : goal.returns
returns t c =
    let more : c.args.count ≡ suc (c.args.count - 1) = omega arith in
    more_assigned c.args.meanings.now c.args.count (c.args.count - 1) c.args.body c.in_ok-first.first c.in_ok-whole.whole more c.in_ok-first.ensures c.in_ok-whole.ensures
