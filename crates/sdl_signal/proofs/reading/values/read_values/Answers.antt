use Rattle.std.proofs.Common.{◌≡◌, ◌+◌, ◌<◌, List, ℕ, [], ◌∷◌, Some, length, map, take, get_or, sym, ap, ◌∙◌, arith, subst, Bor}
use Rattle.std.proofs.lemmas.List.{length-map}
use Rattle.std.proofs.Math.ListN.{get_or-map}
use Rattle.std.specs.List.{AllByRecursion}
use Rattle.sdl_signal.specs.declared.values.Sort.TheVariants as sort
use Rattle.sdl_signal.specs.Line.{ValueFits, value_text, value_texts}
use Rattle.sdl_signal.specs.Reading.{ValueNamesFirst, IsValueText}
use Rattle.sdl_signal.proofs.Texts.{all_append}
use Rattle.sdl_signal.proofs.ValueTexts.{value_texts_more, bad_value_at}
use Rattle.sdl_signal.proofs.reading.values.read_values.Goals as goal

text_at : (fields : List (Bor (List ℕ))) (i : ℕ) → get_or (map (λ f. f.now) fields) i [] ≡ (get_or fields i (record { ref_ptr = (0, 0); now = [] })).now
text_at fields i = get_or-map (λ (f : Bor (List ℕ)). f.now) fields i (record { ref_ptr = (0, 0); now = [] })

pub loop-i-preserved : goal.loop-i-preserved
loop-i-preserved c =
    let names = c.args.names.now in
    let sorts = c.args.sorts.now in
    let i = c.loop-i.i in
    let v = c.in-Some.value in
    let old = c.loop-i.values.items in
    let fields = c.args.fields.now in
    let texts : List (List ℕ) = map (λ f. f.now) fields in
    let inside : i < length texts = rw length-map (omega (arith, c.requires.alike)) in
    let text : value_text names (get_or sorts i sort.Integer) v ≡ Some (get_or texts i []) = c.in-Some.ensures.some ∙ ap Some (sym (text_at fields i)) in
    record {
      many = omega arith;
      texts = ap (λ vs. value_texts names (take (i + 1) sorts) vs) c.push.ensures.items ∙ value_texts_more names sorts texts old i sort.Integer v [] c.loop-i-test.true inside c.loop-i.invariant.texts text;
      fit = subst (AllByRecursion ValueFits) (sym c.push.ensures.items) (all_append ValueFits old (v ∷ []) c.loop-i.invariant.fit (c.in-Some.ensures.fits, tt));
      first = subst (AllByRecursion (ValueNamesFirst names)) (sym c.push.ensures.items) (all_append (ValueNamesFirst names) old (v ∷ []) c.loop-i.invariant.first (c.in-Some.ensures.first, tt));
    }

pub returns-in_default-clause-none : goal.returns-in_default-clause-none
returns-in_default-clause-none c =
    let names = c.args.names.now in
    let sorts = c.args.sorts.now in
    let i = c.loop-i.i in
    let fields = c.args.fields.now in
    let texts : List (List ℕ) = map (λ f. f.now) fields in
    let inside : i < length texts = rw length-map (omega (arith, c.requires.alike)) in
    bad_value_at names sorts texts i sort.Integer [] c.loop-i-test.true inside
    (subst (λ t. ¬ IsValueText names (get_or sorts i sort.Integer) t) (sym (text_at fields i)) c.in_default.ensures.none)
