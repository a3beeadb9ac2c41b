use Rattle.std.proofs.Common.{◌≢◌, [], length, take, eqb, sym, ap, ◌∙◌, subst, rules, tests}
use Rattle.std.specs.List.{AllByRecursion}
use Rattle.std.proofs.lemmas.Iterator.Splits.{YieldsList-from_slice_split}
use Rattle.std.proofs.lemmas.Iterator.Consumers.{YieldsList-turn, YieldsList-end}
use Rattle.sdl_signal.proofs.Cutting.{none_is_empty, empty_if_no_length, contains_empty}
use Rattle.sdl_signal.specs.Reading.{fields}
use Rattle.sdl_signal.proofs.reading.fields.fields_of.Goals as goal

pub returns-then-is_empty-clause-empty : goal.returns-then-is_empty-clause-empty
returns-then-is_empty-clause-empty c =
    let t = YieldsList-turn (YieldsList-from_slice_split _ (λ b. eqb b 32) c.args.line.now (cc) (cc) (cc) (λ x b q k. search (rules, tests))) c.loop-field.yielded _ c.loop-field.yielded_by _ _ c.in-Some.field c.in-Some.is c.next.ensures.steps in
    contains_empty (fields c.args.line.now) (length c.loop-field.yielded) c.in-Some.field.now t.0 t.1
    (empty_if_no_length c.in-Some.field.now (sym c.is_empty.ensures ∙ c.if-is_empty.true))

pub returns-clause-cut : goal.returns-clause-cut
returns-clause-cut c =
    let t = YieldsList-end (YieldsList-from_slice_split _ (λ b. eqb b 32) c.args.line.now (cc) (cc) (cc) (λ x b q k. search (rules, tests))) c.loop-field.yielded _ c.loop-field.yielded_by _ _ c.in-None.is c.next.ensures.steps in
    c.loop-field.invariant.cut ∙ ap (take 9) t.0

pub returns-clause-full : goal.returns-clause-full
returns-clause-full c =
    let t = YieldsList-end (YieldsList-from_slice_split _ (λ b. eqb b 32) c.args.line.now (cc) (cc) (cc) (λ x b q k. search (rules, tests))) c.loop-field.yielded _ c.loop-field.yielded_by _ _ c.in-None.is c.next.ensures.steps in
    none_is_empty (fields c.args.line.now) (subst (AllByRecursion (λ f. f ≢ [])) t.0 c.loop-field.invariant.full)
