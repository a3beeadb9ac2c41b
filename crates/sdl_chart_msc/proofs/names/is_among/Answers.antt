use Rattle.std.proofs.Common.{eqb, rules, tests}
use Rattle.std.proofs.lemmas.Iterator.Search.{any_from_yields_List}
use Rattle.std.proofs.lemmas.Iterator.Splits.{YieldsList-from_slice_split}
use Rattle.sdl_chart_msc.specs.Names.{is_word}
use Rattle.sdl_chart_msc.proofs.names.is_among.Goals as goal

pub returns : goal.returns
returns c =
    any_from_yields_List (λ word. is_word word c.args.name.now) _ _ _ c.any.ensures.ran
    (YieldsList-from_slice_split _ (λ b. eqb b 32) c.args.words.now (cc) (cc) (cc) (λ x b q k. search (rules, tests))) (λ x b q k. search (rules, tests))
