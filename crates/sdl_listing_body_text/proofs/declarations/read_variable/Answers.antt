use Rattle.sdl_listing_body_text.specs.Declarations.{IsVariable}
use Rattle.sdl_listing_body_text.proofs.Texts.{text_of, all_within}
use Rattle.sdl_listing_body_text.proofs.declarations.read_variable.Goals as goal

pub returns-in-Ok-variable_of-clause-sort : goal.returns-in-Ok-variable_of-clause-sort
returns-in-Ok-variable_of-clause-sort c = c.in-Ok-variable_of.ensures.fits

pub returns-in-Ok-variable_of-clause-spelled : goal.returns-in-Ok-variable_of-clause-spelled
returns-in-Ok-variable_of-clause-spelled c =
    text_of (IsVariable c.args.structure.now c.args.constants.now c.args.before.now c.in-Ok-variable_of.variable) c.args.text.now c.in-Ok.tokens.items
    c.as_slice-all.result.now c.as_slice-all.ensures.value c.in-Ok.ensures.tokens c.in-Ok-variable_of.ensures

pub refused-requires : goal.refused-requires
refused-requires c = all_within c.args.text.now c.in-Ok.tokens.items c.as_slice-all.result.now c.as_slice-all.ensures.value c.in-Ok.ensures.within
