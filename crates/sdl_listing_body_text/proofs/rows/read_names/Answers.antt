use Rattle.std.proofs.Common.{◌≡◌, length, rules}
use Rattle.sdl_listing_body_text.proofs.RowLemmas.{no_list, reads_list}
use Rattle.sdl_listing_body_text.proofs.rows.read_names.Goals as goal

pub returns-then-not-has_sign : goal.returns-then-not-has_sign
returns-then-not-has_sign c = no_list c.args.setting.now c.args.sorts.now c.args.names.now.items c.args.at.tokens.now c.requires.empty

pub returns : goal.returns
returns c =
    let some : length c.args.sorts.now ≡ 0 → ⊥ = search rules in
    reads_list c.args.setting.now c.args.sorts.now c.args.names.now.items c.names_left.new.names.items c.requires.empty some c.in_ok-behind.ensures.read
    c.in_ok-rest.ensures.spelled
