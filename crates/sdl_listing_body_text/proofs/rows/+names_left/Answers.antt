use Rattle.std.proofs.Common.{◌≡◌, ◌-◌, length, get_or, take, drop, arith}
use Rattle.std.proofs.lemmas.Result.{IfOk-weaker}
use Rattle.sdl_listing_body_text.proofs.RowLemmas.{no_more_names, more_names, first_and_rest}
use Rattle.sdl_listing_body_text.proofs.rows.+names_left.Goals as goal

pub returns-else-has_sign-clause-spelled : goal.returns-else-has_sign-clause-spelled
returns-else-has_sign-clause-spelled t c =
    let none : length c.args.sorts.now ≡ 0 = omega arith in
    IfOk-weaker c.sign.result _ _
    (λ r read. no_more_names c.args.setting.now c.args.names.now.items c.args.sorts.now c.args.at.tokens.now r.tokens.now none read) c.sign.ensures.read

pub returns-in_ok-rest-in-len1-up-clause-spelled : goal.returns-in_ok-rest-in-len1-up-clause-spelled
returns-in_ok-rest-in-len1-up-clause-spelled t c =
    let all = c.args.sorts.now in
    IfOk-weaker c.names_left.result _ _
    (λ r more. more_names c.args.setting.now c.args.names.now.items c.next_name.new.names.items c.names_left.new.names.items (get_or all 0 _)
    (take (length all - 1) (drop 1 all)) all c.args.at.tokens.now c.in_ok-rest-in-len1-up.rest.tokens.now r.tokens.now
    (first_and_rest all _ c.in-len1-up.len_at_least) c.in_ok-rest-in-len1-up.ensures.added more) c.names_left.ensures.spelled
