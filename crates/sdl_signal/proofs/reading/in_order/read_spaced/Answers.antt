use Rattle.std.proofs.Common.{◌≡◌, ◌+◌, [], ◌∷◌, ◌++◌, take, get_or, sym, ap, ◌∙◌, subst, arith}
use Rattle.std.proofs.lemmas.List.{take_more, take_all}
use Rattle.std.specs.List.{AllByRecursion}
use Rattle.sdl_signal.specs.declared.values.Sort.TheVariants as sort
use Rattle.sdl_signal.specs.Line.{ValueFits, value_texts}
use Rattle.sdl_signal.specs.Reading.{ValueNamesFirst}
use Rattle.sdl_signal.proofs.Texts.{all_append}
use Rattle.sdl_signal.proofs.ValueTexts.{value_texts-push}
use Rattle.sdl_signal.proofs.InOrder.{spaced_more}
use Rattle.sdl_signal.proofs.reading.in_order.read_spaced.Goals as goal

pub loop-sort-preserved : goal.loop-sort-preserved
loop-sort-preserved c =
    let names = c.args.names.now in
    let sorts = c.args.sorts.now in
    let i = c.loop-sort.sort-index in
    let old = c.loop-sort.values.items in
    let v = c.in-Some-read_value.value in
    let before = c.loop-sort.invariant.texts in
    let field = c.field_before.result.0.now in
    record {
      many = omega (arith, c.loop-sort.invariant.many, c.push.ensures.len);
      texts = (
        before.0 ++ field ∷ [],
        ap (λ vs. value_texts names (take (i + 1) sorts) vs) c.push.ensures.items
            ∙ ap (λ ss. value_texts names ss (old ++ v ∷ [])) (take_more sorts i sort.Integer c.loop-sort-test.true)
            ∙ value_texts-push names (take i sorts) old before.0 (get_or sorts i sort.Integer) v field before.1 c.in-Some-read_value.ensures.some,
        spaced_more c.args.text.now c.loop-sort.rest.now _ field c.field_before.result.1.now before.0 before.2 c.in-Some.ensures c.field_before.ensures,
      );
      fit = subst (AllByRecursion ValueFits) (sym c.push.ensures.items) (all_append ValueFits old (v ∷ []) c.loop-sort.invariant.fit (c.in-Some-read_value.ensures.fits, tt));
      first = subst (AllByRecursion (ValueNamesFirst names)) (sym c.push.ensures.items) (all_append (ValueNamesFirst names) old (v ∷ []) c.loop-sort.invariant.first (c.in-Some-read_value.ensures.first, tt));
    }

pub returns-clause-texts : goal.returns-clause-texts
returns-clause-texts c =
    let names = c.args.names.now in
    let sorts = c.args.sorts.now in
    let i = c.loop-sort.sort-index in
    let vs = c.loop-sort.values.items in
    let before = c.loop-sort.invariant.texts in
    let whole : take i sorts ≡ sorts = take_all i sorts (omega (arith, c.loop-sort-test.false)) in
    (before.0, ap (λ ss. value_texts names ss vs) (sym whole) ∙ before.1, before.2)
