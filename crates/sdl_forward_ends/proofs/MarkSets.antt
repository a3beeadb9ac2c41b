-- Sets of marks as words.
use Rattle.std.proofs.Common.{◌≡◌, ◌≢◌, ◌↔◌, ℕ, zero, suc, ◌+◌, ◌*◌, ◌/◌, ◌%◌, ◌^◌, ◌<◌, ◌≤◌, ◌⊎◌, List, [], ◌∷◌, length, get_or, set, ◌∙◌, ap, sym, refl, inl, inr, ⊎_elim, arith, w64, get_or-set_same, get_or-set_other}
use Rattle.std.proofs.lemmas.Bool.{cases_eq, cases_lt}
use Rattle.std.proofs.lemmas.Nat.Bits.{bit_at_or, bit_at-zero, bit_at-lt, bit_at_set_same, bit_at_set_other, bit_at_clear_same, bit_at_clear_other, bit_at-trailing_zeros, same_from_bits_below}
use Rattle.std.proofs.lemmas.List.{get_or_past}
use Rattle.std.proofs.lemmas.Nat.{le_or_l, le_or_r}
use Rattle.std.specs.Prelude.{bit_and, bit_or}
use Rattle.std.specs.Int.{bit_at, bit_not, trailing_zeros}

-- the bit of the mark m in the words: 1 where they have it
abbrev pub bit : List ℕ → ℕ → ℕ
bit ws m = bit_at (get_or ws (m / 64) 0) (m % 64)

-- where the word k becomes x, its marks are those of x, and all others stay

put_bit : (ws : List ℕ) (k x m : ℕ) → k < length ws → m / 64 ≡ k → bit (set ws k x) m ≡ bit_at x (m % 64)
put_bit ws k x m within same = ap (λ j. bit_at (get_or (set ws k x) j 0) (m % 64)) same ∙ ap (λ w. bit_at w (m % 64)) (get_or-set_same ws k x 0 within)

kept_bit : (ws : List ℕ) (k x m : ℕ) → m / 64 ≢ k → bit (set ws k x) m ≡ bit ws m
kept_bit ws k x m other = ap (λ w. bit_at w (m % 64)) (get_or-set_other ws k (m / 64) x 0 other)

-- with its bit set, a mark is in the words beside those that were
pub added : (ws : List ℕ) (mark m : ℕ) → length ws ≡ 4
    → (bit (set ws (mark / 64 % 4) (bit_or (get_or ws (mark / 64 % 4) 0) (1 * 2 ^ (mark % 64) % 2 ^ 64))) m ≡ 1) ↔ ((bit ws m ≡ 1) ⊎ (m ≡ mark % 256))
added ws mark m four =
    let k : ℕ = mark / 64 % 4 in
    let word : ℕ = get_or ws k 0 in
    let x : ℕ = bit_or word (1 * 2 ^ (mark % 64) % 2 ^ 64) in
    let within : k < length ws = omega arith in
    elim (cases_eq (m / 64) k) [
      | inl same ↦ elim (cases_eq (m % 64) (mark % 64)) [
        | inl here ↦
            let now : bit (set ws k x) m ≡ 1 = put_bit ws k x m within same ∙ ap (bit_at x) here ∙ bit_at_set_same w64 word (mark % 64) (omega arith) in
            (λ h. inr (omega arith), λ h. now)
        | inr away ↦
            let now : bit (set ws k x) m ≡ bit ws m =
            put_bit ws k x m within same ∙ bit_at_set_other w64 word (mark % 64) (omega arith) (m % 64) away ∙ ap (λ j. bit_at (get_or ws j 0) (m % 64)) (sym same) in
            (λ h. inl (sym now ∙ h), λ h. elim h [ inl had ↦ now ∙ had | inr is ↦ absurd (away (omega arith)) ])
      ]
      | inr other ↦
          let now : bit (set ws k x) m ≡ bit ws m = kept_bit ws k x m other in
          (λ h. inl (sym now ∙ h), λ h. elim h [ inl had ↦ now ∙ had | inr is ↦ absurd (other (omega arith)) ])
    ]

-- words that are each the union of two have the marks of both
pub joined : (ws others new : List ℕ) (m : ℕ) → ((j : ℕ) → get_or new j 0 ≡ bit_or (get_or ws j 0) (get_or others j 0))
    → (bit new m ≡ 1) ↔ ((bit ws m ≡ 1) ⊎ (bit others m ≡ 1))
joined ws others new m each =
    let now = ap (λ w. bit_at w (m % 64)) (each (m / 64)) ∙ bit_at_or (get_or ws (m / 64) 0) (get_or others (m / 64) 0) (m % 64) in
    elim (cases_eq (bit ws m) 1) [
      | inl had ↦ (λ h. inl had, λ h. omega (arith, now, bit_at-lt (get_or others (m / 64) 0) (m % 64)))
      | inr not ↦ (λ h. inr (omega (arith, now, h, bit_at-lt (get_or ws (m / 64) 0) (m % 64))), λ h. elim h [ inl had ↦ absurd (not had) | inr has ↦ omega (arith, now, has, bit_at-lt (get_or ws (m / 64) 0) (m % 64)) ])
    ]

-- words that are zero have no mark
pub none_has : (ws : List ℕ) → ((j : ℕ) → get_or ws j 0 ≡ 0) → (m : ℕ) → bit ws m ≡ 1 → ⊥
none_has ws each m h =
    let zero : bit ws m ≡ 0 = ap (λ w. bit_at w (m % 64)) (each (m / 64)) ∙ bit_at-zero (m % 64) in
    omega arith

-- four words of no mark
abbrev pub zero_words : List ℕ
zero_words = 0 ∷ 0 ∷ 0 ∷ 0 ∷ []

-- each of them is zero
pub zeros : (j : ℕ) → get_or zero_words j 0 ≡ 0
zeros zero = refl
zeros (suc zero) = refl
zeros (suc (suc zero)) = refl
zeros (suc (suc (suc zero))) = refl
zeros (suc (suc (suc (suc j)))) = refl

-- past four words there is nothing
pub past_four : (ws : List ℕ) → length ws ≡ 4 → (j : ℕ) → 4 ≤ j → get_or ws j 0 ≡ 0
past_four ws four j past = get_or_past ws j 0 (omega arith)

-- what holds of the four words holds of each place
pub each_or : (ws others new : List ℕ) → length ws ≡ 4 → length others ≡ 4 → length new ≡ 4
    → ((j : ℕ) → j < 4 → get_or new j 0 ≡ bit_or (get_or ws j 0) (get_or others j 0))
    → (j : ℕ) → get_or new j 0 ≡ bit_or (get_or ws j 0) (get_or others j 0)
each_or ws others new a b c each j =
    ⊎_elim (each j)
    (λ past. past_four new c j past ∙ (λ i. bit_or (sym (past_four ws a j past) i) (sym (past_four others b j past) i)))
    (cases_lt j 4)

-- the lowest mark of the word p, below which all are zero
module _ (ws : List ℕ) (p : ℕ) (four : length ws ≡ 4) (within : p < 4) (low : (j : ℕ) → j < p → get_or ws j 0 ≡ 0) (some : 0 < get_or ws p 0) (fits : get_or ws p 0 < 2 ^ 64) where
  abbrev word : ℕ
  word = get_or ws p 0

  abbrev lowest : ℕ
  lowest = trailing_zeros w64 word

  -- it is below 64, its bit is set, and none below it
  first : (lowest < 64) × (bit_at word lowest ≡ 1) × ((i : ℕ) → i < lowest → bit_at word i ≡ 0)
  first = bit_at-trailing_zeros w64 word some fits

  -- the marks of the word p
  at_word : (m : ℕ) → m / 64 ≡ p → bit ws m ≡ bit_at word (m % 64)
  at_word m same = ap (λ j. bit_at (get_or ws j 0) (m % 64)) same

  -- the words have it
  pub has_lowest : bit ws (p * 64 + lowest) ≡ 1
  has_lowest =
      let small = first.0 in
      let place : (p * 64 + lowest) % 64 ≡ lowest = omega arith in
      at_word (p * 64 + lowest) (omega arith) ∙ ap (bit_at word) place ∙ first.1

  -- they have none below it
  pub none_below : (m : ℕ) → m < p * 64 + lowest → bit ws m ≡ 1 → ⊥
  none_below m less h =
      let small = first.0 in
      elim (cases_eq (m / 64) p) [
        | inl same ↦ let zero : bit ws m ≡ 0 = at_word m same ∙ first.2 (m % 64) (omega arith) in omega arith
        | inr other ↦
            let zero : bit ws m ≡ 0 = ap (λ w. bit_at w (m % 64)) (low (m / 64) (omega arith)) ∙ bit_at-zero (m % 64) in
            omega arith
      ]

  -- with its bit cleared, the words have what they had but it
  pub taken_out : (m : ℕ) → (bit (set ws p (bit_and word (bit_not w64 (1 * 2 ^ lowest % 2 ^ 64)))) m ≡ 1) ↔ ((bit ws m ≡ 1) × m ≢ p * 64 + lowest)
  taken_out m =
      let small = first.0 in
      let x : ℕ = bit_and word (bit_not w64 (1 * 2 ^ lowest % 2 ^ 64)) in
      let inside : p < length ws = omega arith in
      elim (cases_eq (m / 64) p) [
        | inl same ↦ elim (cases_eq (m % 64) lowest) [
          | inl here ↦
              let now : bit (set ws p x) m ≡ 0 = put_bit ws p x m inside same ∙ ap (bit_at x) here ∙ bit_at_clear_same w64 word lowest small in
              (λ h. absurd (omega arith), λ h. absurd (h.1 (omega arith)))
          | inr away ↦
              let now : bit (set ws p x) m ≡ bit ws m =
              put_bit ws p x m inside same ∙ bit_at_clear_other w64 word lowest small (m % 64) (omega arith) away ∙ sym (at_word m same) in
              (λ h. (sym now ∙ h, λ is. away (omega arith)), λ h. now ∙ h.0)
        ]
        | inr other ↦
            let now : bit (set ws p x) m ≡ bit ws m = kept_bit ws p x m other in
            (λ h. (sym now ∙ h, λ is. other (omega arith)), λ h. now ∙ h.0)
      ]

-- words without a mark are zero
pub word_is_zero : (ws : List ℕ) (j : ℕ) → get_or ws j 0 < 2 ^ 64 → ((m : ℕ) → bit ws m ≡ 1 → ⊥) → get_or ws j 0 ≡ 0
word_is_zero ws j fits none =
    same_from_bits_below 64 (get_or ws j 0) 0 fits (omega arith)
    (λ i less.
    let word : (j * 64 + i) / 64 ≡ j = omega arith in
    let place : (j * 64 + i) % 64 ≡ i = omega arith in
    let is : bit ws (j * 64 + i) ≡ bit_at (get_or ws j 0) i = (λ t. bit_at (get_or ws (word t) 0) (place t)) in
    let not = none (j * 64 + i) in
    elim (cases_eq (bit_at (get_or ws j 0) i) 1) [
      | inl one ↦ absurd (not (is ∙ one))
      | inr other ↦ omega (arith, bit_at-lt (get_or ws j 0) i, bit_at-zero i)
    ])

-- four words have no mark exactly where their union is zero
module _ (ws : List ℕ) (four : length ws ≡ 4) where
  abbrev first_three : ℕ
  first_three = bit_or (bit_or (get_or ws 0 0) (get_or ws 1 0)) (get_or ws 2 0)

  abbrev union : ℕ
  union = bit_or first_three (get_or ws 3 0)

  each_zero : union ≡ 0 → (j : ℕ) → get_or ws j 0 ≡ 0
  each_zero none zero =
      omega (arith, none, le_or_l first_three (get_or ws 3 0), le_or_l (bit_or (get_or ws 0 0) (get_or ws 1 0)) (get_or ws 2 0), le_or_l (get_or ws 0 0) (get_or ws 1 0))
  each_zero none (suc zero) =
      omega (arith, none, le_or_l first_three (get_or ws 3 0), le_or_l (bit_or (get_or ws 0 0) (get_or ws 1 0)) (get_or ws 2 0), le_or_r (get_or ws 0 0) (get_or ws 1 0))
  each_zero none (suc (suc zero)) = omega (arith, none, le_or_l first_three (get_or ws 3 0), le_or_r (bit_or (get_or ws 0 0) (get_or ws 1 0)) (get_or ws 2 0))
  each_zero none (suc (suc (suc zero))) = omega (arith, none, le_or_r first_three (get_or ws 3 0))
  each_zero none (suc (suc (suc (suc j)))) = past_four ws four (suc (suc (suc (suc j)))) (omega arith)

  pub empty_tells : get_or ws 0 0 < 2 ^ 64 → get_or ws 1 0 < 2 ^ 64 → get_or ws 2 0 < 2 ^ 64 → get_or ws 3 0 < 2 ^ 64
      → (union ≡ 0) ↔ ((m : ℕ) → bit ws m ≡ 1 → ⊥)
  empty_tells a b c d = (
    λ none. none_has ws (each_zero none),
    λ none. (λ i. bit_or (bit_or (bit_or (word_is_zero ws 0 a none i) (word_is_zero ws 1 b none i)) (word_is_zero ws 2 c none i)) (word_is_zero ws 3 d none i)),
  )
