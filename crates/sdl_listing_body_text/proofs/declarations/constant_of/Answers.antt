use Rattle.sdl_listing_body_text.proofs.DeclarationLemmas.{spells_constant}
use Rattle.sdl_listing_body_text.proofs.declarations.constant_of.Goals as goal

pub returns-in-Some-clause-spelled : goal.returns-in-Some-clause-spelled
returns-in-Some-clause-spelled c =
    spells_constant c.args.structure.now c.args.before.now (record { name = c.in-Some.name; value = c.in_ok-value.value }) c.in_ok-text.text.now c.args.tokens.now
    c.in-Some.ensures c.new-at.ensures.tokens c.in_ok-text.ensures c.in_ok-behind.ensures.read c.in_ok-value.ensures.spelled c.in_ok-ended.ensures
