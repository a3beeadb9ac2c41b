use Rattle.sdl_listing_body_text.specs.Declarations.{IsConstant}
use Rattle.sdl_listing_body_text.proofs.Texts.{text_of, all_within}
use Rattle.sdl_listing_body_text.proofs.declarations.read_constant.Goals as goal

pub returns-in-Ok-constant_of-clause-spelled : goal.returns-in-Ok-constant_of-clause-spelled
returns-in-Ok-constant_of-clause-spelled c =
    text_of (IsConstant c.args.structure.now c.args.before.now c.in-Ok-constant_of.constant) c.args.text.now c.in-Ok.tokens.items c.as_slice-all.result.now
    c.as_slice-all.ensures.value c.in-Ok.ensures.tokens c.in-Ok-constant_of.ensures.spelled

pub refused-requires : goal.refused-requires
refused-requires c = all_within c.args.text.now c.in-Ok.tokens.items c.as_slice-all.result.now c.as_slice-all.ensures.value c.in-Ok.ensures.within
