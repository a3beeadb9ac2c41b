-- The bytes that wait in a source, and the first line of them.
use Rattle.std.proofs.Common.{◌≡◌, ◌≢◌, ℕ, ◌+◌, ◌-◌, ◌<◌, ◌≤◌, min, List, [], ◌∷◌, ◌++◌, length, take, drop, sym, ap, ◌∙◌, subst, append_assoc, arith, slice_range, slice_index}
use Rattle.std.proofs.Math.Seq.{take-add}
use Rattle.std.proofs.lemmas.List.{drop-take, drop-drop, drop_more, take-append-drop, get_or-take, get_or_default, length-take, length-take-le, take_all}
use Rattle.std.proofs.lemmas.List.Elements.{recursion_from_All}
use Rattle.sdl_signal_lines.specs.Bytes.{newline, HasNoNewline, BeginsTooLong, ended_line}

-- what is left of a range when its first bytes are dropped
pub drop-slice_range : (xs : List ℕ) (start count end : ℕ) → start + count ≤ end → drop count (slice_range xs start end) ≡ slice_range xs (start + count) end
drop-slice_range xs start count end h =
    let rest : end - start ≡ count + (end - (start + count)) = omega arith in
    ap (λ n. drop count (take n (drop start xs))) rest ∙ drop-take count (end - (start + count)) (drop start xs) ∙ ap (take (end - (start + count))) (drop-drop count start xs)

-- the bytes before a newline, the newline, and the bytes after it
pub split_at_newline : (xs : List ℕ) (k : ℕ) → k < length xs → slice_index xs k ≡ newline → xs ≡ ended_line (take k xs) ++ drop (k + 1) xs
split_at_newline xs k h e =
    sym (take-append-drop k xs) ∙ ap (λ r. take k xs ++ r) (drop_more xs k 0 h ∙ ap (λ b. b ∷ drop (k + 1) xs) e) ∙ sym (append_assoc (take k xs) (newline ∷ []) (drop (k + 1) xs))

-- no newline is among the bytes before a place that none stands before
pub HasNoNewline-take : (xs : List ℕ) (k : ℕ) → k ≤ length xs → ((j : ℕ) → j < k → slice_index xs j ≢ newline) → HasNoNewline (take k xs)
HasNoNewline-take xs k h before = recursion_from_All (λ b. b ≢ newline) (take k xs) (λ j d lt.
    let count : length (take k xs) ≡ k = length-take-le k xs h in
    let inside : j < k = omega (arith, lt, count) in
    let within : j < length xs = omega arith in
    rw (get_or-take k xs j d inside, get_or_default xs j d 0 within) (before j inside))

-- a newline among the first bytes ends the first line
pub first_line : (w : List ℕ) (shown place : ℕ) → shown ≡ min (length w) 321 → place < length (take shown w) → slice_index (take shown w) place ≡ newline
    → ((j : ℕ) → j < place → slice_index (take shown w) j ≢ newline)
    → (w ≡ ended_line (take place w) ++ drop (place + 1) w) × HasNoNewline (take place w) × (place ≤ 320) × (place + 1 ≤ length w)
first_line w shown place e lt is before =
    let count : length (take shown w) ≡ min shown (length w) = length-take shown w in
    let inside : place < shown = omega (arith, lt, count) in
    let within : place < length w = omega (arith, lt, count) in
    let here : slice_index w place ≡ newline = rw (← get_or-take shown w place 0 inside) is in
    let below : place ≤ length w = omega arith in (
      split_at_newline w place within here,
      HasNoNewline-take w place below (λ j h. let far : j < shown = omega arith in rw (← get_or-take shown w j 0 far) (before j h)),
      omega (arith, inside, e),
      omega (arith, within),
    )

-- no newline among all bytes that wait, which are few
pub no_line_yet : (w : List ℕ) (shown : ℕ) → shown ≡ min (length w) 321 → shown ≤ 320 → ((j : ℕ) → j < length (take shown w) → slice_index (take shown w) j ≢ newline) → HasNoNewline w × (length w ≤ 320)
no_line_yet w shown e few none =
    let short : length w ≤ 320 = omega (arith, e, few) in
    let all : take shown w ≡ w = take_all shown w (omega (arith, e, few)) in
    let P : List ℕ → Type 0 = λ xs. (j : ℕ) → j < length xs → slice_index xs j ≢ newline in
    let each : P w = subst P all none in
    (subst HasNoNewline (take_all (length w) w (omega arith)) (HasNoNewline-take w (length w) (omega arith) each), short)

-- no newline among the first 321 bytes
pub too_long_line : (w : List ℕ) (shown : ℕ) → shown ≡ min (length w) 321 → 320 < shown → ((j : ℕ) → j < length (take shown w) → slice_index (take shown w) j ≢ newline) → BeginsTooLong w
too_long_line w shown e many none =
    let is : shown ≡ 321 = omega (arith, e, many) in
    let enough : shown ≤ length w = omega (arith, e, many) in
    let count : length (take shown w) ≡ shown = length-take-le shown w enough in (
      take shown w,
      drop shown w,
      sym (take-append-drop shown w),
      count ∙ is,
      HasNoNewline-take w shown enough (λ j h. let far : j < length (take shown w) = omega (arith, h, count) in rw (← get_or-take shown w j 0 h) (none j far)),
    )

-- the bytes that wait after a block was read behind them
pub filled : (old first second : List ℕ) (start end count : ℕ) → start ≤ end
    → take (end - start) first ≡ slice_range old start end → take (end - start) second ≡ take (end - start) first
    → slice_range second 0 (end - start + count) ≡ slice_range old start end ++ take count (drop (end - start) second)
filled old first second start end count h moved kept =
    let all : end - start + count - 0 ≡ end - start + count = omega arith in
    ap (λ n. take n second) all ∙ take-add (end - start) count second ∙ ap (λ front. front ++ take count (drop (end - start) second)) (kept ∙ moved)
