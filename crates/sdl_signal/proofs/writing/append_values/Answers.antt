use Rattle.std.proofs.Common.{◌≡◌, ◌<◌, ℕ, pos, List, [], ◌++◌, length, map, take, get_or, Some, unwrap_or, ap, ◌∙◌, refl, arith, length-append, ◌∷◌}
use Rattle.std.proofs.lemmas.List.{take_all}
use Rattle.sdl_signal.specs.declared.values.Value.TheVariants as value
use Rattle.sdl_signal.specs.Line.{value_text, value_texts}
use Rattle.sdl_signal.specs.Sorts.{sort_of}
use Rattle.sdl_signal.specs.Writing.{spaced}
use Rattle.sdl_signal.proofs.ValueTexts.{length-value_texts}
use Rattle.sdl_signal.proofs.Spaced.{some_of, is_some_of, if_some_at, if_some_from, value_text_at, appended_more}
use Rattle.sdl_signal.proofs.writing.append_values.Goals as goal

pub append_value-requires-clause-named : goal.append_value-requires-clause-named
append_value-requires-clause-named c =
    let names = c.args.names.now in
    let vs = c.args.values.now in
    let i = c.loop-value.value-index in
    let ts : List (List ℕ) = unwrap_or (value_texts names (map sort_of vs) vs) [] in
    let all : value_texts names (map sort_of vs) vs ≡ Some ts = some_of (value_texts names (map sort_of vs) vs) [] c.requires.named in
    let v = get_or vs i (value.Integer (pos 0)) in
    is_some_of (value_text names (sort_of v) v) (get_or ts i []) (value_text_at names vs ts i (value.Integer (pos 0)) all c.loop-value-test.true)

pub loop-value-preserved : goal.loop-value-preserved
loop-value-preserved c =
    let names = c.args.names.now in
    let vs = c.args.values.now in
    let i = c.loop-value.value-index in
    let ts : List (List ℕ) = unwrap_or (value_texts names (map sort_of vs) vs) [] in
    let all : value_texts names (map sort_of vs) vs ≡ Some ts = some_of (value_texts names (map sort_of vs) vs) [] c.requires.named in
    let v = get_or vs i (value.Integer (pos 0)) in
    let at = value_text_at names vs ts i (value.Integer (pos 0)) all c.loop-value-test.true in
    let many = length-value_texts names (map sort_of vs) vs ts all in
    let inside : i < length ts = omega (arith, many.0, many.1, c.loop-value-test.true) in
    let new = c.append_value.new.line.items in
    let one = c.push.new.self.items in
    let text : new ≡ one ++ get_or ts i [] = if_some_at (λ t. new ≡ one ++ t) (value_text names (sort_of v) v) (get_or ts i []) at c.append_value.ensures.text in
    record {
      texts = appended_more c.args.line.now.items c.loop-value.line.items one new (get_or ts i []) ts i inside refl c.loop-value.invariant.texts c.push.ensures.items text;
      few = omega (arith, c.append_value.ensures.few, c.loop-value.invariant.few, ap length c.push.ensures.items, length-append c.loop-value.line.items (32 ∷ []));
    }

pub returns-clause-texts : goal.returns-clause-texts
returns-clause-texts c =
    let names = c.args.names.now in
    let vs = c.args.values.now in
    let i = c.loop-value.value-index in
    let ts : List (List ℕ) = unwrap_or (value_texts names (map sort_of vs) vs) [] in
    let all : value_texts names (map sort_of vs) vs ≡ Some ts = some_of (value_texts names (map sort_of vs) vs) [] c.requires.named in
    let many = length-value_texts names (map sort_of vs) vs ts all in
    let whole : take i ts ≡ ts = take_all i ts (omega (arith, many.0, many.1, c.loop-value-test.false)) in
    if_some_from (λ texts. c.loop-value.line.items ≡ c.args.line.now.items ++ spaced texts) (value_texts names (map sort_of vs) vs) ts all (c.loop-value.invariant.texts ∙ ap (λ l. c.args.line.now.items ++ spaced l) whole)
