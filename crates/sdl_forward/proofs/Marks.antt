-- Marks of delaying paths, set, cleared and found.
use Rattle.std.proofs.Common.{◌≡◌, ◌≢◌, ℕ, zero, suc, ◌+◌, ◌-◌, ◌*◌, ◌/◌, ◌%◌, ◌^◌, ◌<◌, ◌≤◌, min, Bool, true, false, cond, not, eqb, List, [], ◌∷◌, ◌++◌, length, take, Some, None, slice_get, inl, inr, bit_and, bit_or, refl, ap, sym, ◌∙◌, subst, arith, add-one}
use Rattle.std.specs.Int.{bit_at, bit_not, trailing_zeros, w64}
use Rattle.std.proofs.Math.Nat.{div-le_self}
use Rattle.std.proofs.lemmas.Bool.{cases_Bool, cond_both, cond-true, cond-false, eqb-true, false≢true}
use Rattle.std.proofs.lemmas.Nat.{div-add-mod', mod_below}
use Rattle.std.proofs.lemmas.Nat.Bits.{bit_at-zero, bit_at_cat_high, bit_at-trailing_zeros, bit_at_set_same, bit_at_set_other, bit_at_clear_other}
use Rattle.sdl_routes.specs.declared.route.Hop.{Hop}
use Rattle.sdl_forward.specs.declared.busy.Busy.{Busy}
use Rattle.sdl_routes.specs.declared.route.Station.{Station}
use Rattle.sdl_routes.specs.declared.route.Station.TheVariants.{Line, Inlet, Outlet}
use Rattle.sdl_signal.specs.declared.values.Item.{Item}
use Rattle.sdl_queue.specs.declared.rest.Rest.{Rest}
use Rattle.sdl_queue.specs.Rest.{left_in}
use Rattle.std.proofs.lemmas.Option.{same_Some}
use Rattle.sdl_forward.specs.Boards.{same_station, waiting, lists_of, ChangesOnly}
use Rattle.sdl_forward.specs.Busy.{IsClear, ShowsAllBusy}
use Rattle.sdl_forward.proofs.Same.{cases_station, same_station_is}

-- a word with one more bit
marked_word : (word k i : ℕ) → k < 64 → bit_at (bit_or word (1 * 2 ^ k % 2 ^ 64)) i ≡ 0 → (bit_at word i ≡ 0) × (i ≢ k)
marked_word word k i within none =
    let other : i ≢ k = λ same. (let one : bit_at (bit_or word (1 * 2 ^ k % 2 ^ 64)) i ≡ 1 = ap (bit_at (bit_or word (1 * 2 ^ k % 2 ^ 64))) same ∙ bit_at_set_same w64 word k within in omega (arith, one, none)) in
    (sym (bit_at_set_other w64 word k within i other) ∙ none, other)

-- the bit of a path, by its direction
module _ (forth back i : ℕ) (direction : Bool) (none : bit_at (cond direction back forth) i ≡ 0) where
  is_back : direction ≡ true → bit_at back i ≡ 0
  is_back e = subst (λ (w : ℕ). bit_at w i ≡ 0) (cond-true direction back forth e) none

  is_forth : direction ≡ false → bit_at forth i ≡ 0
  is_forth e = subst (λ (w : ℕ). bit_at w i ≡ 0) (cond-false direction back forth e) none

bit_of : (forth back i : ℕ) (direction : Bool) → (direction ≡ true → bit_at back i ≡ 0) → (direction ≡ false → bit_at forth i ≡ 0) → bit_at (cond direction back forth) i ≡ 0
bit_of forth back i direction one other = cond_both direction back forth (λ (w : ℕ). bit_at w i ≡ 0) one other

same_hop_is : (h k : Hop) → h.channel.0 ≡ k.channel.0 → h.back ≡ k.back → h ≡ k
same_hop_is h k channel back =
    ap (λ (n : ℕ). record { channel = record { 0 = n }; back = h.back }) channel ∙ ap (λ (b : Bool). record { channel = k.channel; back = b }) back

module _ (busy : Busy) (hop : Hop) (within : hop.channel.0 < 64) (h : Hop) where
  pub marked_back : hop.back ≡ true → IsClear (record { forth = busy.forth; back = bit_or busy.back (1 * 2 ^ hop.channel.0 % 2 ^ 64); further = busy.further }) h → IsClear busy h × (h ≢ hop)
  marked_back is clear =
      let word : ℕ = bit_or busy.back (1 * 2 ^ hop.channel.0 % 2 ^ 64) in (
        (
          λ low. bit_of busy.forth busy.back h.channel.0 h.back
              (λ e. (marked_word busy.back hop.channel.0 h.channel.0 within (is_back busy.forth word h.channel.0 h.back (clear.0 low) e)).0)
              (λ e. is_forth busy.forth word h.channel.0 h.back (clear.0 low) e),
          clear.1,
        ),
        λ same.
            let low : h.channel.0 < 64 = subst (λ (k : Hop). k.channel.0 < 64) (sym same) within in
            (marked_word busy.back hop.channel.0 h.channel.0 within (is_back busy.forth word h.channel.0 h.back (clear.0 low) (ap (λ (k : Hop). k.back) same ∙ is))).1
            (ap (λ (k : Hop). k.channel.0) same),
      )

  pub marked_forth : hop.back ≡ false → IsClear (record { forth = bit_or busy.forth (1 * 2 ^ hop.channel.0 % 2 ^ 64); back = busy.back; further = busy.further }) h → IsClear busy h × (h ≢ hop)
  marked_forth is clear =
      let word : ℕ = bit_or busy.forth (1 * 2 ^ hop.channel.0 % 2 ^ 64) in (
        (
          λ low. bit_of busy.forth busy.back h.channel.0 h.back
              (λ e. is_back word busy.back h.channel.0 h.back (clear.0 low) e)
              (λ e. (marked_word busy.forth hop.channel.0 h.channel.0 within (is_forth word busy.back h.channel.0 h.back (clear.0 low) e)).0),
          clear.1,
        ),
        λ same.
            let low : h.channel.0 < 64 = subst (λ (k : Hop). k.channel.0 < 64) (sym same) within in
            (marked_word busy.forth hop.channel.0 h.channel.0 within (is_forth word busy.back h.channel.0 h.back (clear.0 low) (ap (λ (k : Hop). k.back) same ∙ is))).1
            (ap (λ (k : Hop). k.channel.0) same),
      )

  module _ (other : h ≢ hop) where
    kept : (word : ℕ) → h.back ≡ hop.back → h.channel.0 < 64 → bit_at (bit_and word (bit_not w64 (1 * 2 ^ hop.channel.0 % 2 ^ 64))) h.channel.0 ≡ 0 → bit_at word h.channel.0 ≡ 0
    kept word same low none = sym (bit_at_clear_other w64 word hop.channel.0 within h.channel.0 low (λ e. other (same_hop_is h hop e same))) ∙ none

    pub cleared_back : hop.back ≡ true → IsClear (record { forth = busy.forth; back = bit_and busy.back (bit_not w64 (1 * 2 ^ hop.channel.0 % 2 ^ 64)); further = busy.further }) h → IsClear busy h
    cleared_back is clear =
        let word : ℕ = bit_and busy.back (bit_not w64 (1 * 2 ^ hop.channel.0 % 2 ^ 64)) in (
          λ low. bit_of busy.forth busy.back h.channel.0 h.back
              (λ e. kept busy.back (e ∙ sym is) low (is_back busy.forth word h.channel.0 h.back (clear.0 low) e))
              (λ e. is_forth busy.forth word h.channel.0 h.back (clear.0 low) e),
          clear.1,
        )

    pub cleared_forth : hop.back ≡ false → IsClear (record { forth = bit_and busy.forth (bit_not w64 (1 * 2 ^ hop.channel.0 % 2 ^ 64)); back = busy.back; further = busy.further }) h → IsClear busy h
    cleared_forth is clear =
        let word : ℕ = bit_and busy.forth (bit_not w64 (1 * 2 ^ hop.channel.0 % 2 ^ 64)) in (
          λ low. bit_of busy.forth busy.back h.channel.0 h.back
              (λ e. is_back word busy.back h.channel.0 h.back (clear.0 low) e)
              (λ e. kept busy.forth (e ∙ sym is) low (is_forth word busy.back h.channel.0 h.back (clear.0 low) e)),
          clear.1,
        )

-- below its first bit from a place on, a word has none
none_before : (word : ℕ) → word < 2 ^ 64 → (i : ℕ) → i < trailing_zeros w64 word → bit_at word i ≡ 0
none_before zero below i less = bit_at-zero i
none_before (suc word) below i less = (bit_at-trailing_zeros w64 (suc word) (omega arith) below).2 i less

pub none_from : (word from i : ℕ) → word < 2 ^ 64 → from ≤ i → i < from + trailing_zeros w64 (word / 2 ^ from) → bit_at word i ≡ 0
none_from word from i below lower less =
    let smaller = div-le_self word (2 ^ from) in
    let whole : word / 2 ^ from * 2 ^ from + word % 2 ^ from ≡ word = div-add-mod' word (2 ^ from) in
    ap (λ (n : ℕ). bit_at n i) (sym whole)
    ∙ (bit_at_cat_high (word / 2 ^ from) from (word % 2 ^ from) i (mod_below word (2 ^ from) (one_pow from)) lower
    ∙ none_before (word / 2 ^ from) (omega (arith, below, smaller)) (i - from) (omega (arith, lower, less)))
  where
    one_pow : (k : ℕ) → 0 < 2 ^ k
    one_pow zero = omega arith
    one_pow (suc k) = let h : 0 < 2 ^ k = one_pow k in omega (arith, h)

pub next_clear : (busy : Busy) (channel both found : ℕ) → busy.forth < 2 ^ 64 → busy.back < 2 ^ 64
    → both ≡ min (trailing_zeros w64 (busy.forth / 2 ^ channel)) (trailing_zeros w64 (busy.back / 2 ^ channel)) → found ≡ min (channel + both) 64
    → (h : Hop) → channel ≤ h.channel.0 → h.channel.0 < found → IsClear busy h
next_clear busy channel both found forth_fits back_fits first is h lower less = (
  λ low. bit_of busy.forth busy.back h.channel.0 h.back
      (λ e. none_from busy.back channel h.channel.0 back_fits lower (omega (arith, first, is, less)))
      (λ e. none_from busy.forth channel h.channel.0 forth_fits lower (omega (arith, first, is, less))),
  λ high. absurd (omega (arith, is, less, high)),
)

-- where the queue of one station has changed, and it was noted whether something may wait there
pub keeps_marks : (old new : Busy) (some : Bool) (s : Station) (before after : List (Station × List Item))
    → ((h : Hop) → IsClear new h → (Line h ≡ s → some ≡ false) × (Line h ≢ s → IsClear old h))
    → ChangesOnly before after s → (some ≡ false → waiting after s ≡ []) → ShowsAllBusy old before → ShowsAllBusy new after
keeps_marks old new some s before after noted changes empty marks h clear = elim (cases_station (Line h) s) [
  | inl same ↦ subst (λ (t : Station). waiting after t ≡ []) (sym same) (empty ((noted h clear).0 same))
  | inr other ↦ changes.others (Line h) other ∙ marks h ((noted h clear).1 other)
]

hop_or : Hop → Station → Hop
hop_or h (Line k) = k
hop_or h (Inlet b) = h
hop_or h Outlet = h

pub same_line : (h k : Hop) → Line h ≡ Line k → h ≡ k
unfolding hop_or
same_line h k e = ap (hop_or h) e

pub none_here : (items : List Item) (count : ℕ) → count ≡ length items → count ≡ 0 → items ≡ []
none_here [] count is none = refl
none_here (x ∷ items) count is none = absurd (omega (arith, is, none))

pub none_left : (items : List Item) (count : ℕ) → count ≡ length items → not (eqb count 0) ≡ false → items ≡ []
none_left [] count is none = refl
none_left (x ∷ items) count is none = absurd (elim (cases_Bool (eqb count 0)) [
  | inl e ↦ (let zero : count ≡ 0 = eqb-true count 0 e in omega (arith, zero, is))
  | inr e ↦ false≢true (sym none ∙ ap not e)
])

-- the marks of one more queue
waiting_more : (es : List (Station × List Item)) (e : Station × List Item) (s : Station) → waiting es s ≡ [] → (e.0 ≡ s → e.1 ≡ []) → waiting (es ++ e ∷ []) s ≡ []
waiting_more [] e s none here = cond_both (same_station e.0 s) e.1 [] (λ (xs : List Item). xs ≡ []) (λ t. here (same_station_is e.0 s t)) (λ f. refl)
waiting_more (x ∷ es) e s none here =
    cond_both (same_station x.0 s) x.1 (waiting (es ++ e ∷ []) s) (λ (xs : List Item). xs ≡ [])
    (λ t. sym (cond-true (same_station x.0 s) x.1 (waiting es s) t) ∙ none)
    (λ f. waiting_more es e s (sym (cond-false (same_station x.0 s) x.1 (waiting es s) f) ∙ none) here)

lists_suc : (rests : List (Station × Rest)) (k : ℕ) (r : Station × Rest) → slice_get rests k ≡ Some r → lists_of (take (suc k) rests) ≡ lists_of (take k rests) ++ (r.0, left_in r.1) ∷ []
lists_suc [] k r at = let e : None ≡ Some r = at in cc
lists_suc (x ∷ rests) zero r at = ap (λ (y : Station × Rest). (y.0, left_in y.1) ∷ []) (same_Some x r at)
lists_suc (x ∷ rests) (suc k) r at = ap (λ es. (x.0, left_in x.1) ∷ es) (lists_suc rests k r at)

lists_more : (rests : List (Station × Rest)) (k : ℕ) (r : Station × Rest) → slice_get rests k ≡ Some r → lists_of (take (k + 1) rests) ≡ lists_of (take k rests) ++ (r.0, left_in r.1) ∷ []
lists_more rests k r at = ap (λ n. lists_of (take n rests)) (add-one k) ∙ lists_suc rests k r at

module _ (old new : Busy) (rests : List (Station × Rest)) (k : ℕ) (r : Station × Rest) (at : slice_get rests k ≡ Some r) (marks : ShowsAllBusy old (lists_of (take k rests))) where
  one_more : ((h : Hop) → IsClear new h → IsClear old h × (r.0 ≡ Line h → left_in r.1 ≡ [])) → ShowsAllBusy new (lists_of (take (k + 1) rests))
  one_more noted h clear =
      subst (λ (es : List (Station × List Item)). waiting es (Line h) ≡ []) (sym (lists_more rests k r at))
      (waiting_more (lists_of (take k rests)) (r.0, left_in r.1) (Line h) (marks h (noted h clear).0) (noted h clear).1)

  pub marked_more : ((h : Hop) → IsClear new h → (Line h ≡ r.0 → true ≡ false) × (Line h ≢ r.0 → IsClear old h)) → ShowsAllBusy new (lists_of (take (k + 1) rests))
  marked_more noted = one_more (λ h clear.
      let other : Line h ≢ r.0 = λ e. false≢true (sym ((noted h clear).0 e)) in
      ((noted h clear).1 other, λ e. absurd (other (sym e))))

  pub empty_more : new ≡ old → left_in r.1 ≡ [] → ShowsAllBusy new (lists_of (take (k + 1) rests))
  empty_more same none = one_more (λ h clear. (subst (λ (b : Busy). IsClear b h) same clear, λ e. none))
