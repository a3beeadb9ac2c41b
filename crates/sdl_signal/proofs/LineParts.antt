-- The parts of a line's fields: the values and the TO part.
use Rattle.std.proofs.Common.{◌≡◌, ◌≢◌, ℕ, zero, suc, ◌+◌, ◌-◌, ◌<◌, ◌≤◌, Bool, true, false, cond, ltb, ◌&&◌, List, [], ◌∷◌, ◌++◌, length, get_or, map, take, drop, Some, None, refl, sym, ap, ◌∙◌, codes, bytes_eq, slice_get, arith, length-append, Bor, append-nil, length-drop}
use Rattle.std.specs.List.{AllByRecursion}
use Rattle.std.proofs.lemmas.Bool.{false≢true}
use Rattle.std.proofs.lemmas.Bool.Decides.{nat_tests}
use Rattle.std.proofs.lemmas.List.{take-append-drop, take-map, drop-map, drop-take, length-take-le, length-map}
use Rattle.std.proofs.lemmas.Option.{slice_get-get_or}
use Rattle.std.proofs.Math.ListN.{get_or-map, get_or-append, drop_of_length-le}
use Rattle.std.proofs.Math.Seq.{take-append_seam, get_or-append_seam, get_or-append-add, drop-cons}
use Rattle.std.proofs.lemmas.Slice.Eq.{bytes_eq-Decides}
use Rattle.sdl_signal.specs.Line.{to_part}
use Rattle.sdl_signal.specs.Reading.{has_to, to_field, value_fields}
use Rattle.sdl_signal.proofs.Named.{bytes_eq-same}

abbrev to_word : List ℕ
to_word = codes "to"

has_to_yes : (fs : List (List ℕ)) → 4 ≤ length fs → get_or fs (length fs - 2) [] ≡ to_word → has_to fs ≡ true
has_to_yes fs l e =
    let many : ltb 3 (length fs) ≡ true = grind (arith, nat_tests) in
    ap (λ b. b && bytes_eq (get_or fs (length fs - 2) []) to_word) many ∙ bytes_eq-same (get_or fs (length fs - 2) []) to_word e

pub values_with_to : (fs : List (List ℕ)) → has_to fs ≡ true → value_fields fs ≡ drop 2 (take (length fs - 2) fs)
values_with_to fs e = ap (λ b. drop 2 (cond b (take (length fs - 2) fs) fs)) e

pub values_without_to : (fs : List (List ℕ)) → has_to fs ≡ false → value_fields fs ≡ drop 2 fs
values_without_to fs e = ap (λ b. drop 2 (cond b (take (length fs - 2) fs) fs)) e

pub to_with_to : (fs : List (List ℕ)) → has_to fs ≡ true → to_field fs ≡ slice_get fs (length fs - 1)
to_with_to fs e = ap (λ b. cond b (slice_get fs (length fs - 1)) None) e

pub to_without_to : (fs : List (List ℕ)) → has_to fs ≡ false → to_field fs ≡ None
to_without_to fs e = ap (λ b. cond b (slice_get fs (length fs - 1)) None) e

-- what the program takes for the parts
now_at : (xs : List (Bor (List ℕ))) (i : ℕ) → get_or (map (λ f. f.now) xs) i [] ≡ (get_or xs i (record { ref_ptr = (0, 0); now = [] })).now
now_at xs i = get_or-map (λ (f : Bor (List ℕ)). f.now) xs i (record { ref_ptr = (0, 0); now = [] })

yes_from_last : (xs : List (Bor (List ℕ))) → 4 ≤ length xs → (get_or xs (length xs - 2) (record { ref_ptr = (0, 0); now = [] })).now ≡ to_word → has_to (map (λ f. f.now) xs) ≡ true
yes_from_last xs l e =
    let fs : List (List ℕ) = map (λ f. f.now) xs in
    let n : length fs ≡ length xs = length-map xs (λ (f : Bor (List ℕ)). f.now) in
    has_to_yes fs (omega (arith, n)) (ap (λ k. get_or fs (k - 2) []) n ∙ now_at xs (length xs - 2) ∙ e)

pub taken_values : (xs : List (Bor (List ℕ))) → 4 ≤ length xs → (get_or xs (length xs - 2) (record { ref_ptr = (0, 0); now = [] })).now ≡ to_word → map (λ f. f.now) (take (length xs - 2 - 2) (drop 2 xs)) ≡ value_fields (map (λ f. f.now) xs)
taken_values xs l e =
    let now = λ (f : Bor (List ℕ)). f.now in
    let fs : List (List ℕ) = map now xs in
    let n : length fs ≡ length xs = length-map xs now in
    let m : 2 + (length xs - 2 - 2) ≡ length xs - 2 = omega arith in
    sym (take-map now (length xs - 2 - 2) (drop 2 xs))
    ∙ ap (take (length xs - 2 - 2)) (sym (drop-map now 2 xs))
    ∙ sym (drop-take 2 (length xs - 2 - 2) fs)
    ∙ ap (λ k. drop 2 (take k fs)) (m ∙ ap (λ k. k - 2) (sym n))
    ∙ sym (values_with_to fs (yes_from_last xs l e))

pub taken_to : (xs : List (Bor (List ℕ))) → 4 ≤ length xs → (get_or xs (length xs - 2) (record { ref_ptr = (0, 0); now = [] })).now ≡ to_word → Some (get_or xs (length xs - 1) (record { ref_ptr = (0, 0); now = [] })).now ≡ to_field (map (λ f. f.now) xs)
taken_to xs l e =
    let now = λ (f : Bor (List ℕ)). f.now in
    let fs : List (List ℕ) = map now xs in
    let n : length fs ≡ length xs = length-map xs now in
    sym (to_with_to fs (yes_from_last xs l e)
    ∙ slice_get-get_or fs (length fs - 1) [] (omega (arith, n))
    ∙ ap (λ k. Some (get_or fs (k - 1) [])) n
    ∙ ap Some (now_at xs (length xs - 1)))

-- the last two of a list
last_two : (fs : List (List ℕ)) → 2 ≤ length fs → fs ≡ take (length fs - 2) fs ++ get_or fs (length fs - 2) [] ∷ get_or fs (length fs - 1) [] ∷ []
last_two fs l =
    let n = length fs in
    let a : n - 2 < n = omega arith in
    let b : n - 1 < n = omega arith in
    let s : suc (n - 2) ≡ n - 1 = omega arith in
    let t : suc (n - 1) ≡ n = omega arith in
    let rest : drop (n - 2) fs ≡ get_or fs (n - 2) [] ∷ get_or fs (n - 1) [] ∷ [] =
    drop-cons fs (n - 2) [] a
    ∙ ap (λ k. get_or fs (n - 2) [] ∷ drop k fs) s
    ∙ ap (λ r. get_or fs (n - 2) [] ∷ r) (drop-cons fs (n - 1) [] b ∙ ap (λ k. get_or fs (n - 1) [] ∷ drop k fs) t ∙ ap (λ r. get_or fs (n - 1) [] ∷ r) (drop_of_length-le fs (omega arith))) in
    sym (take-append-drop (n - 2) fs) ∙ ap (λ r. take (n - 2) fs ++ r) rest

first_two : (fs : List (List ℕ)) → 2 ≤ length fs → fs ≡ get_or fs 0 [] ∷ get_or fs 1 [] ∷ drop 2 fs
first_two [] l = absurd (omega (arith, l))
first_two (a ∷ []) l = absurd (omega (arith, l))
first_two (a ∷ b ∷ fs) l = refl

and_parts : (a b : Bool) → (a && b) ≡ true → (a ≡ true) × (b ≡ true)
and_parts true true e = (refl, refl)
and_parts true false e = absurd (false≢true e)
and_parts false b e = absurd (false≢true e)

many_if_to : (fs : List (List ℕ)) → has_to fs ≡ true → (4 ≤ length fs) × (get_or fs (length fs - 2) [] ≡ to_word)
many_if_to fs e =
    let p = and_parts (ltb 3 (length fs)) (bytes_eq (get_or fs (length fs - 2) []) to_word) e in
    (grind (arith, nat_tests, p.0), (bytes_eq-Decides (get_or fs (length fs - 2) []) to_word).0 p.1)

-- the parts of the fields, joined
whole_with_to : (fs : List (List ℕ)) → 2 ≤ length fs → has_to fs ≡ true → fs ≡ get_or fs 0 [] ∷ get_or fs 1 [] ∷ value_fields fs ++ to_part (to_field fs)
whole_with_to fs l e =
    let n = length fs in
    let m = many_if_to fs e in
    let front = take (n - 2) fs in
    let size : length front ≡ n - 2 = length-take-le (n - 2) fs (omega arith) in
    let long : 2 ≤ length front = omega (arith, size, m.0) in
    let ends : List (List ℕ) = to_word ∷ get_or fs (n - 1) [] ∷ [] in
    let whole : fs ≡ front ++ ends = last_two fs l ∙ ap (λ t. front ++ t ∷ get_or fs (n - 1) [] ∷ []) m.1 in
    let start : front ≡ get_or front 0 [] ∷ get_or front 1 [] ∷ drop 2 front = first_two front long in
    let zeroth : get_or fs 0 [] ≡ get_or front 0 [] = ap (λ l. get_or l 0 []) whole ∙ get_or-append front ends [] 0 (omega (arith, long)) in
    let second : get_or fs 1 [] ≡ get_or front 1 [] = ap (λ l. get_or l 1 []) whole ∙ get_or-append front ends [] 1 (omega (arith, long)) in
    let part : to_part (to_field fs) ≡ ends = ap to_part (to_with_to fs e ∙ slice_get-get_or fs (n - 1) [] (omega (arith, m.0))) in
    whole
    ∙ ap (λ r. r ++ ends) start
    ∙ ap (λ a. a ∷ get_or front 1 [] ∷ drop 2 front ++ ends) (sym zeroth)
    ∙ ap (λ a. get_or fs 0 [] ∷ a ∷ drop 2 front ++ ends) (sym second)
    ∙ ap (λ v. get_or fs 0 [] ∷ get_or fs 1 [] ∷ v ++ ends) (sym (values_with_to fs e))
    ∙ ap (λ r. get_or fs 0 [] ∷ get_or fs 1 [] ∷ value_fields fs ++ r) (sym part)

whole_without_to : (fs : List (List ℕ)) → 2 ≤ length fs → has_to fs ≡ false → fs ≡ get_or fs 0 [] ∷ get_or fs 1 [] ∷ value_fields fs ++ to_part (to_field fs)
whole_without_to fs l e =
    first_two fs l
    ∙ ap (λ v. get_or fs 0 [] ∷ get_or fs 1 [] ∷ v) (sym (values_without_to fs e) ∙ sym (append-nil (value_fields fs)))
    ∙ ap (λ t. get_or fs 0 [] ∷ get_or fs 1 [] ∷ value_fields fs ++ to_part t) (sym (to_without_to fs e))

whole_by_test : (fs : List (List ℕ)) (b : Bool) → 2 ≤ length fs → has_to fs ≡ b → fs ≡ get_or fs 0 [] ∷ get_or fs 1 [] ∷ value_fields fs ++ to_part (to_field fs)
whole_by_test fs true l e = whole_with_to fs l e
whole_by_test fs false l e = whole_without_to fs l e

pub parts_are_whole : (fs : List (List ℕ)) → 2 ≤ length fs → fs ≡ get_or fs 0 [] ∷ get_or fs 1 [] ∷ value_fields fs ++ to_part (to_field fs)
parts_are_whole fs l = whole_by_test fs (has_to fs) l refl

-- a line with nine fields has five values or more
many_by_test : (fs : List (List ℕ)) (b : Bool) → 9 ≤ length fs → has_to fs ≡ b → 5 ≤ length (value_fields fs)
many_by_test fs true l e =
    let front = take (length fs - 2) fs in
    let size : length front ≡ length fs - 2 = length-take-le (length fs - 2) fs (omega arith) in
    omega (arith, size, ap length (values_with_to fs e), length-drop 2 front)
many_by_test fs false l e = omega (arith, ap length (values_without_to fs e), length-drop 2 fs)

pub nine_are_many : (fs : List (List ℕ)) → 9 ≤ length fs → 5 ≤ length (value_fields fs)
nine_are_many fs l = many_by_test fs (has_to fs) l refl

-- the parts of a line that is written
pub parts_with_to : (g s : List ℕ) (vs : List (List ℕ)) (t : List ℕ) → (value_fields (g ∷ s ∷ vs ++ to_word ∷ t ∷ []) ≡ vs) × (to_field (g ∷ s ∷ vs ++ to_word ∷ t ∷ []) ≡ Some t)
parts_with_to g s vs t =
    let front : List (List ℕ) = g ∷ s ∷ vs in
    let fs : List (List ℕ) = front ++ to_word ∷ t ∷ [] in
    let n : length fs ≡ length front + 2 = length-append front (to_word ∷ t ∷ []) in
    let two : length fs - 2 ≡ length front = omega (arith, n) in
    let one : length fs - 1 ≡ length front + 1 = omega (arith, n) in
    let yes = has_to_yes fs (omega (arith, n)) (ap (λ k. get_or fs k []) two ∙ get_or-append_seam front to_word (t ∷ []) []) in (
      values_with_to fs yes ∙ ap (λ k. drop 2 (take k fs)) two ∙ ap (drop 2) (take-append_seam front (to_word ∷ t ∷ [])),
      to_with_to fs yes ∙ slice_get-get_or fs (length fs - 1) [] (omega (arith, n)) ∙ ap (λ k. Some (get_or fs k [])) one ∙ ap Some (get_or-append-add front (to_word ∷ t ∷ []) 1 []),
    )

other_than_to : (vs : List (List ℕ)) (i : ℕ) → AllByRecursion (λ v. v ≢ to_word) vs → i < length vs → get_or vs i [] ≢ to_word
other_than_to [] i h l e = omega (arith, l)
other_than_to (v ∷ vs) zero h l e = h.0 e
other_than_to (v ∷ vs) (suc i) h l e = other_than_to vs i h.1 (omega (arith, l)) e

no_to_by_test : (g s : List ℕ) (vs : List (List ℕ)) (b : Bool) → AllByRecursion (λ v. v ≢ to_word) vs → has_to (g ∷ s ∷ vs) ≡ b → has_to (g ∷ s ∷ vs) ≡ false
no_to_by_test g s vs false h e = e
no_to_by_test g s vs true h e =
    let fs : List (List ℕ) = g ∷ s ∷ vs in
    let m = many_if_to fs e in
    let k : length fs - 2 ≡ 2 + (length vs - 2) = omega (arith, m.0) in
    absurd (other_than_to vs (length vs - 2) h (omega (arith, m.0)) (sym (ap (λ i. get_or fs i []) k ∙ get_or-append-add (g ∷ s ∷ []) vs (length vs - 2) []) ∙ m.1))

pub parts_without_to : (g s : List ℕ) (vs : List (List ℕ)) → AllByRecursion (λ v. v ≢ to_word) vs → (value_fields (g ∷ s ∷ vs) ≡ vs) × (to_field (g ∷ s ∷ vs) ≡ None)
parts_without_to g s vs h =
    let e = no_to_by_test g s vs (has_to (g ∷ s ∷ vs)) h refl in
    (values_without_to (g ∷ s ∷ vs) e, to_without_to (g ∷ s ∷ vs) e)
