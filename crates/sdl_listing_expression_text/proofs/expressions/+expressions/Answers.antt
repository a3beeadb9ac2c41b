use Rattle.std.proofs.Common.{ℤ, ◌+◌, ◌≤◌, List, length, sym, ◌∙◌, ap, subst, arith, rules, w64}
use Rattle.std.proofs.lemmas.Int.{to_z-of_z}
use Rattle.std.proofs.lemmas.Result.{IfOk-weaker}
use mir.Val.{SFits}
use Rattle.sdl_listing_expression.specs.declared.syntax.Expr.{Integer}
use Rattle.sdl_listing_tokens.specs.declared.tokens.Token.{Token}
use Rattle.sdl_listing_expression_text.specs.Spelling.{first_level, Spells, Reads}
use Rattle.sdl_listing_expression_text.proofs.Spelled.{first_above, first_below, first_same, stops_high, stops_here, stops_compared, reads_from, reads_then, reads_weaker, reads_bracketed, reads_word, reads_integer, reads_negative, reads_named, reads_negated, reads_inverse, reads_serial, reads_instance, reads_choice, reads_two}
use Rattle.sdl_listing_expression_text.proofs.expressions.+expressions.Goals as goal

-- ---- operators between two operands

pub operand-returns-then-level-gt-TIGHTEST-clause-spelled : goal.operand-returns-then-level-gt-TIGHTEST-clause-spelled
operand-returns-then-level-gt-TIGHTEST-clause-spelled t c =
    let low : c.args.level ≤ 5 = omega arith in
    IfOk-weaker c.unary.result _ _ (λ r p. reads_weaker c.args.meanings.now r.0 5 c.args.level low p) c.unary.ensures.spelled

pub operand-returns-then-level-gt-TIGHTEST-clause-stops : goal.operand-returns-then-level-gt-TIGHTEST-clause-stops
operand-returns-then-level-gt-TIGHTEST-clause-stops t c =
    let high : 5 ≤ c.args.level = omega arith in
    IfOk-weaker c.unary.result _ _ (λ r p. stops_high c.args.level r.1.tokens.now high) c.unary.ensures.shorter

pub operand-more-requires : goal.operand-more-requires
operand-more-requires t c = (
  omega (arith, c.decreases, c.in_ok-first.ensures.shorter),
  (
    omega arith,
    (
      reads_weaker c.args.meanings.now c.in_ok-first.first (c.args.level + 1) (first_level c.args.level) (first_below c.args.level) c.in_ok-first.ensures.spelled,
      (c.in_ok-first.ensures.stops, omega (arith, c.in_ok-first.ensures.shorter)),
    ),
  ),
)

pub more-returns-in_default-clause-spelled : goal.more-returns-in_default-clause-spelled
more-returns-in_default-clause-spelled t c =
    reads_weaker c.args.meanings.now c.args.first (first_level c.args.level) c.args.level (first_above c.args.level) c.requires.first

pub more-returns-in_default-clause-stops : goal.more-returns-in_default-clause-stops
more-returns-in_default-clause-stops t c = stops_here c.args.level c.args.at.tokens.now c.in_default.ensures.none c.requires.stops

pub more-returns-then-level-eq-COMPARISONS-clause-spelled : goal.more-returns-then-level-eq-COMPARISONS-clause-spelled
more-returns-then-level-eq-COMPARISONS-clause-spelled t c =
    reads_two c.args.meanings.now c.in-Some.found c.args.first c.in_ok-second.second c.in_ok-both.both c.args.level c.args.level
    c.in_ok-both.ensures.built c.in-Some.ensures.level (omega arith)
    c.requires.first c.in-Some.ensures.read (reads_from c.in_ok-behind.ensures.tokens c.in_ok-second.ensures.spelled)

pub more-returns-then-level-eq-COMPARISONS-clause-stops : goal.more-returns-then-level-eq-COMPARISONS-clause-stops
more-returns-then-level-eq-COMPARISONS-clause-stops t c =
    stops_compared c.args.level c.in_ok-second.rest.tokens.now c.if-level-eq-COMPARISONS.true c.in_ok-second.ensures.stops

pub more-more-requires : goal.more-more-requires
more-more-requires t c =
    let same = ap (λ (l : List Token). length l) c.in_ok-behind.ensures.tokens in (
      omega (arith, c.decreases, same, c.in_ok-second.ensures.shorter, c.in-Some.ensures.shorter),
      (
        c.requires.level,
        (
          reads_two c.args.meanings.now c.in-Some.found c.args.first c.in_ok-second.second c.in_ok-both.both c.args.level (first_level c.args.level)
              c.in_ok-both.ensures.built c.in-Some.ensures.level (first_same c.args.level c.if-level-eq-COMPARISONS.false)
              c.requires.first c.in-Some.ensures.read (reads_from c.in_ok-behind.ensures.tokens c.in_ok-second.ensures.spelled),
          (c.in_ok-second.ensures.stops, omega (arith, same, c.in_ok-second.ensures.shorter, c.in-Some.ensures.shorter, c.requires.shorter)),
        ),
      ),
    )

-- ---- operators before a value

pub unary-returns-then-begins_number-clause-spelled : goal.unary-returns-then-begins_number-clause-spelled
unary-returns-then-begins_number-clause-spelled t c =
    let m = c.args.meanings.now in
    let z = c.in_ok-number.number in
    let fits : SFits w64 z = search rules in
    subst (λ (x : ℤ). Reads (Spells m (Integer x) 5) c.args.at.tokens.now c.in_ok-number.rest.tokens.now) (sym (to_z-of_z w64 z fits))
    (reads_negative m z (reads_from c.in_ok-counted.ensures.tokens c.in_ok-behind.ensures.read) c.in_ok-number.ensures.read)

pub unary-returns-then-has_sign-clause-spelled : goal.unary-returns-then-has_sign-clause-spelled
unary-returns-then-has_sign-clause-spelled t c =
    reads_negated c.args.meanings.now c.in_ok-inner.inner c.in_ok-value.value c.in_ok-value.ensures.built
    (reads_from c.in_ok-counted.ensures.tokens c.in_ok-behind.ensures.read)
    (sym c.begins_number.ensures ∙ c.if-begins_number.false) c.in_ok-inner.ensures.spelled

pub unary-returns-then-has_word-clause-spelled : goal.unary-returns-then-has_word-clause-spelled
unary-returns-then-has_word-clause-spelled t c =
    reads_inverse c.args.meanings.now c.in_ok-inner-2.inner c.in_ok-value-2.value c.in_ok-value-2.ensures.built
    (reads_from c.in_ok-counted-2.ensures.tokens c.in_ok-behind-2.ensures.read) c.in_ok-inner-2.ensures.spelled

pub unary-returns-clause-spelled : goal.unary-returns-clause-spelled
unary-returns-clause-spelled t c =
    IfOk-weaker c.primary-2.result _ _ (λ r p. reads_weaker c.args.meanings.now r.0 6 5 (omega arith) p) c.primary-2.ensures.spelled

-- ---- values

pub primary-returns-in_ok-number-in-Some-Integer-clause-spelled : goal.primary-returns-in_ok-number-in-Some-Integer-clause-spelled
primary-returns-in_ok-number-in-Some-Integer-clause-spelled t c =
    let m = c.args.meanings.now in
    let z = c.in_ok-number-in-Some-Integer.number in
    let fits : SFits w64 z = search rules in
    subst (λ (x : ℤ). Reads (Spells m (Integer x) 6) c.args.at.tokens.now c.in_ok-number-in-Some-Integer.rest.tokens.now) (sym (to_z-of_z w64 z fits))
    (reads_integer m z 6 (reads_from c.in_ok-counted-in-Some-Integer.ensures.tokens c.in_ok-number-in-Some-Integer.ensures.read))

pub primary-returns-in_ok-counted-in-Some-Sign-Open-clause-spelled : goal.primary-returns-in_ok-counted-in-Some-Sign-Open-clause-spelled
primary-returns-in_ok-counted-in-Some-Sign-Open-clause-spelled t c =
    IfOk-weaker c.bracketed.result _ _
    (λ r p. reads_bracketed c.args.meanings.now r.0 6 (reads_from c.in_ok-counted-in-Some-Sign-Open.ensures.tokens p))
    c.bracketed.ensures.spelled

pub primary-returns-in-Some-Word-clause-spelled : goal.primary-returns-in-Some-Word-clause-spelled
primary-returns-in-Some-Word-clause-spelled t c =
    IfOk-weaker c.worded.result _ _ (λ r p. reads_word c.args.meanings.now r.0 6 p) c.worded.ensures.read

pub named-returns-in_ok-value-in-Some-clause-spelled : goal.named-returns-in_ok-value-in-Some-clause-spelled
named-returns-in_ok-value-in-Some-clause-spelled t c =
    reads_instance c.args.meanings.now c.in-Some.set c.in_ok-text.text.now c.in_ok-inner-in-Some.inner c.in_ok-value-in-Some.value 6
    c.in_ok-value-in-Some.ensures.built (sym c.set_named.ensures ∙ c.in-Some.is)
    (reads_from c.in_ok-counted.ensures.tokens c.in_ok-text.ensures.read) c.in_ok-inner-in-Some.ensures.spelled

pub named-returns-in-Some-value-clause-spelled : goal.named-returns-in-Some-value-clause-spelled
named-returns-in-Some-value-clause-spelled t c =
    reads_named c.args.meanings.now c.in_ok-text.text.now c.in-Some-value.value 6
    (sym c.set_named.ensures ∙ c.in-None.is) (sym c.value.ensures ∙ c.in-Some-value.is)
    (reads_from c.in_ok-counted.ensures.tokens c.in_ok-text.ensures.read)

pub serial-returns-clause-spelled : goal.serial-returns-clause-spelled
serial-returns-clause-spelled t c =
    reads_serial c.args.meanings.now c.in_ok-inner.inner c.in_ok-value.value 6 c.in_ok-value.ensures.built
    (reads_from c.in_ok-counted.ensures.tokens c.in_ok-behind.ensures.read) c.in_ok-inner.ensures.spelled

pub bracketed-returns-clause-spelled : goal.bracketed-returns-clause-spelled
bracketed-returns-clause-spelled t c =
    reads_then c.in_ok-behind.ensures.read (reads_then c.in_ok-inner.ensures.spelled c.in_ok-rest.ensures.read)

pub choice-returns-clause-spelled : goal.choice-returns-clause-spelled
choice-returns-clause-spelled t c =
    reads_choice c.args.meanings.now c.in_ok-condition.condition c.in_ok-yes.yes c.in_ok-no.no c.in_ok-value.value 6 c.in_ok-value.ensures.built
    (reads_from c.in_ok-counted.ensures.tokens c.in_ok-behind.ensures.read) c.in_ok-condition.ensures.spelled
    c.in_ok-on_true.ensures.read c.in_ok-yes.ensures.spelled
    c.in_ok-on_false.ensures.read c.in_ok-no.ensures.spelled c.in_ok-rest.ensures.read
