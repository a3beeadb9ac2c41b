use Rattle.std.proofs.Common.{sym, ◌∙◌}
use Rattle.sdl_listing_expression_text.proofs.Plain.{variable_named}
use Rattle.sdl_listing_expression_text.proofs.setting.Meanings.value.Goals as goal

pub returns-in-Some : goal.returns-in-Some
returns-in-Some c =
    variable_named c.args.self.now c.args.text.now c.as_slice-variables.result.now c.in-Some.place c.variable_at.result c.as_slice-variables.ensures.value
    (sym c.place_of_variable.ensures.place ∙ c.in-Some.is) c.variable_at.ensures
