use Rattle.std.proofs.Common.{rules, ◌≡◌, ℕ, ◌+◌, ◌*◌, ◌%◌, ◌<◌, ◌^◌, length, get_or, set, bit_and, subst, arith, w64, ⊎_elim}
use Rattle.std.specs.Int.{trailing_zeros, bit_not}
use Rattle.sdl_forward_ends.specs.declared.marks.Marks.{Marks}
use Rattle.sdl_forward_ends.specs.Marks.{HasMark, IsLeast, IsWithout, IsEmpty}
use Rattle.sdl_forward_ends.proofs.MarkSets.{has_lowest, none_below, taken_out, none_has, past_four}
use Rattle.std.proofs.lemmas.Bool.{cases_lt}
use Rattle.sdl_forward_ends.proofs.marks.Marks.pop.Goals as goal

pub returns-then-word-ne0-clause-least : goal.returns-then-word-ne0-clause-least
unfolding HasMark
returns-then-word-ne0-clause-least c =
    let words = c.loop-place.self.words in
    let p : ℕ = c.loop-place.place in
    let four : length words ≡ 4 = search rules in
    let some : 0 < get_or words p 0 = omega (arith, c.if-word-ne0.true) in
    let fits : get_or words p 0 < 2 ^ 64 = search rules in
    let low = c.loop-place.invariant.1 in
    let within = c.loop-place-test.true in
    subst (λ (s : Marks). IsLeast s (p * 64 + trailing_zeros w64 (get_or words p 0))) c.loop-place.invariant.0
    (record { has = has_lowest words p four within low some fits; below = none_below words p four within low some fits })

pub returns-then-word-ne0-clause-left : goal.returns-then-word-ne0-clause-left
unfolding HasMark
returns-then-word-ne0-clause-left c =
    let words = c.loop-place.self.words in
    let p : ℕ = c.loop-place.place in
    let four : length words ≡ 4 = search rules in
    let some : 0 < get_or words p 0 = omega (arith, c.if-word-ne0.true) in
    let fits : get_or words p 0 < 2 ^ 64 = search rules in
    let low = c.loop-place.invariant.1 in
    let within = c.loop-place-test.true in
    let lowest : ℕ = trailing_zeros w64 (get_or words p 0) in
    let left : Marks = record { words = set words p (bit_and (get_or words p 0) (bit_not w64 (1 * 2 ^ lowest % 2 ^ 64))) } in
    subst (λ (s : Marks). IsWithout s (p * 64 + lowest) left) c.loop-place.invariant.0
    (taken_out words p four within low some fits)

pub returns-clause-empty : goal.returns-clause-empty
unfolding HasMark
returns-clause-empty c =
    let words = c.loop-place.self.words in
    let four : length words ≡ 4 = search rules in
    subst (λ (s : Marks). IsEmpty s) c.loop-place.invariant.0
    (none_has words (λ j. ⊎_elim (λ less. c.loop-place.invariant.1 j (omega arith)) (past_four words four j) (cases_lt j 4)))
