use Rattle.std.proofs.Common.{◌≡◌, ℕ, ◌+◌, ◌<◌, ◌≤◌, ◌∷◌, ◌++◌, [], List, length, drop, is_ok, refl, sym, ap, ◌∙◌, subst, arith, rules, false-eqb, Some}
use Rattle.std.specs.Prelude.{All}
use Rattle.std.proofs.ResultArms.{chosen}
use Rattle.std.proofs.lemmas.Bool.{eqb-true}
use Rattle.std.proofs.lemmas.List.Elements.{All-push}
use Rattle.sdl_listing_tokens.specs.declared.tokens.Token.{Token}
use Rattle.sdl_listing_tokens.specs.Tokens.{token_at}
use Rattle.sdl_listing_tokens.proofs.Cutting.{no_token, all_gap, token_more, rest_more}
use Rattle.sdl_listing_tokens.proofs.tokens.cut.Goals as goal

pub returns-then-is_empty-clause-tokens : goal.returns-then-is_empty-clause-tokens
returns-then-is_empty-clause-tokens c =
    let rest = c.loop-gap.rest.now in
    let none : length c.split_at.result.1.now ≡ 0 = eqb-true _ 0 (sym c.is_empty.ensures ∙ c.if-is_empty.true) in
    let left : length (drop c.gap_length.result rest) ≡ 0 = ap (λ (l : List ℕ). length l) (sym c.split_at.ensures.back) ∙ none in
    no_token c.args.text.now c.loop-gap.tokens.items (c.loop-gap.invariant.tokens [] (all_gap rest c.gap_length.result left c.gap_length.ensures.last))

pub loop-gap-preserved : goal.loop-gap-preserved
loop-gap-preserved c =
    let text = c.args.text.now in
    let rest = c.loop-gap.rest.now in
    let gap = c.split_at.result.0.now in
    let behind = c.split_at.result.1.now in
    let after = c.split_at-in-loop-gap.result.1.now in
    let at = c.loop-gap.at in
    let n = c.gap_length.result in
    let m = c.in-Some.length in
    let some = false-eqb _ 0 (sym c.if-is_empty.false ∙ c.is_empty.ensures) in
    let below : n < length rest = omega (arith, some, c.split_at.ensures.back_len) in
    let t : Token = record { kind = c.in-Some.kind; text = c.split_at-in-loop-gap.result.0; start = at + length gap; fresh = c.has_new_line.result } in
    let found : token_at behind ≡ Some (t.kind, m) = first_of (cc, search rules) in
    let pushed : c.push.new.self.items ≡ c.loop-gap.tokens.items ++ t ∷ [] = chosen _ _ _ _ c.push.ensures.items (ap is_ok c.in_ok-push.was) in
    record {
      place = omega (arith, c.loop-gap.invariant.place, c.split_at.ensures.front_len, c.split_at.ensures.back_len, c.split_at-in-loop-gap.ensures.back_len);
      left = subst (λ (x : ℕ). after ≡ drop (at + x + m) text) (sym c.split_at.ensures.front_len)
          (rest_more text rest behind after at n m c.loop-gap.invariant.left c.split_at.ensures.back c.split_at-in-loop-gap.ensures.back);
      tokens = token_more text rest gap behind after at n m c.loop-gap.tokens.items c.push.new.self.items t c.loop-gap.invariant.tokens c.split_at.ensures.front
          c.split_at.ensures.back (c.gap_length.ensures.gap below) c.split_at-in-loop-gap.ensures.front c.split_at-in-loop-gap.ensures.back
          c.in-Some.ensures.within refl c.has_new_line.ensures found pushed;
      all = subst (λ (l : List Token). All (λ t. t.start + length t.text.now ≤ length text) l) (sym pushed)
          (All-push (λ (t : Token). t.start + length t.text.now ≤ length text) c.loop-gap.tokens.items t c.loop-gap.invariant.all
          (omega (arith, c.loop-gap.invariant.place, c.split_at.ensures.front_len, c.split_at.ensures.back_len, c.split_at-in-loop-gap.ensures.front_len, c.split_at-in-loop-gap.ensures.back_len)));
    }
