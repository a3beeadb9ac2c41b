use Rattle.sdl_listing_body_text.proofs.DeclarationLemmas.{spells_variable}
use Rattle.sdl_listing_body_text.proofs.declarations.variable_of.Goals as goal

pub returns-in-Some : goal.returns-in-Some
returns-in-Some c =
    spells_variable c.args.structure.now c.args.constants.now c.args.before.now
    (record { name = c.in-Some.name; sort = c.in_ok-sort.sort; initial = c.in_ok-value.value }) c.in_ok-text.text.now c.args.tokens.now c.in-Some.ensures
    (c.is_variable.ensures c.if-is_variable.false) c.in_ok-value.ensures.sort c.new-at.ensures.tokens c.in_ok-text.ensures c.in_ok-sort.ensures c.in_ok-value.ensures.spelled
    c.in_ok-ended.ensures
