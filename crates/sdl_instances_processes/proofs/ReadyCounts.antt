-- The counts of the ready instances, and how they change with the instances.
use Rattle.std.proofs.Common.{◌≡◌, ℕ, zero, suc, ◌+◌, ◌*◌, ◌/◌, ◌<◌, ◌≤◌, Bool, true, false, cond, List, [], ◌∷◌, ◌++◌, Some, ◌⊎◌, inl, inr, refl, ap, sym, ◌∙◌, subst, sum, sum_by, count_by, length, replicate, take, get_or, slice_get, slice_set, min, arith}
use Rattle.std.proofs.Math.Seq.{take-suc}
use Rattle.std.proofs.lemmas.List.{take_all, take-append-le, length-take, length-take-le, length-set}
use Rattle.std.proofs.lemmas.List.Sums.{sum_by-cons, sum_by-take-le, sum_by_more, sum_by_push, get_or-le-sum_by, count_by-le-length, count_by_more_yes, count_by_more_no}
use Rattle.std.proofs.lemmas.Option.{slice_get_within, get_or_from_slice_get}
use Rattle.std.proofs.lemmas.Map.Entries.{length-values_of}
use Rattle.std.specs.Map.{values_of}
use Rattle.indexmap.specs.Layout.{set_value_at}
use Rattle.sdl_signal.specs.declared.values.Pid.{Pid}
use Rattle.sdl_instances_processes.proofs.Readiness.{record_of}
use Rattle.sdl_instances_processes.specs.Record.{Record, is_ready}
use Rattle.sdl_instances_processes.specs.declared.ready.ReadyCounts.{ReadyCounts}
use Rattle.sdl_instances_processes.specs.Ready.{ready_before, AreCounts, AreReadyCounts, OneMoreReady, IsRaised, IsReadyPlace, room_of}

-- a sum of the first ones, once one of them is written
module _ {X : Type 0} (f : X → ℕ) where
  pub sum_written : (xs : List X) (i n : ℕ) (x d : X) → i < length xs → i < n → sum_by f (take n (slice_set xs i x)) + f (get_or xs i d) ≡ sum_by f (take n xs) + f x
  sum_written [] i n x d within h = absurd (omega (arith, within))
  sum_written (y ∷ xs) i zero x d within h = absurd (omega (arith, h))
  sum_written (y ∷ xs) zero (suc n) x d within h =
      let new = sum_by-cons f x (take n xs) in
      let old = sum_by-cons f y (take n xs) in
      omega (arith, new, old)
  sum_written (y ∷ xs) (suc i) (suc n) x d within h =
      let new = sum_by-cons f y (take n (slice_set xs i x)) in
      let old = sum_by-cons f y (take n xs) in
      let more = sum_written xs i n x d (omega (arith, within)) (omega (arith, h)) in
      omega (arith, new, old, more)

  pub take_before : (xs : List X) (i n : ℕ) (x : X) → n ≤ i → take n (slice_set xs i x) ≡ take n xs
  take_before [] i n x h = refl
  take_before (y ∷ xs) i zero x h = refl
  take_before (y ∷ xs) zero (suc n) x h = absurd (omega (arith, h))
  take_before (y ∷ xs) (suc i) (suc n) x h = ap (λ l. y ∷ l) (take_before xs i n x (omega (arith, h)))

  pub sum_rises : (xs : List X) (m n : ℕ) → m ≤ n → sum_by f (take m xs) ≤ sum_by f (take n xs)
  sum_rises [] zero zero h = omega arith
  sum_rises [] zero (suc n) h = omega arith
  sum_rises [] (suc m) zero h = omega arith
  sum_rises [] (suc m) (suc n) h = omega arith
  sum_rises (x ∷ xs) zero zero h = omega arith
  sum_rises (x ∷ xs) zero (suc n) h = omega arith
  sum_rises (x ∷ xs) (suc m) zero h = absurd (omega (arith, h))
  sum_rises (x ∷ xs) (suc m) (suc n) h =
      let low = sum_by-cons f x (take m xs) in
      let high = sum_by-cons f x (take n xs) in
      let more = sum_rises xs m n (omega (arith, h)) in
      omega (arith, low, high, more)

  -- past the end there is no more
  pub sum_all : (xs : List X) (n : ℕ) → length xs ≤ n → sum_by f (take n xs) ≡ sum_by f xs
  sum_all xs n h = ap (sum_by f) (take_all n xs h)

-- zeros at the end change no sum
sum_zeros : (m n : ℕ) → sum (take n (replicate m 0)) ≡ 0
sum_zeros zero zero = refl
sum_zeros zero (suc n) = refl
sum_zeros (suc m) zero = refl
sum_zeros (suc m) (suc n) =
    let one = sum_by-cons (λ (x : ℕ). x) 0 (take n (replicate m 0)) in
    let more = sum_zeros m n in
    omega (arith, one, more)

pub zeros_behind : (xs : List ℕ) (m n : ℕ) → sum (take n (xs ++ replicate m 0)) ≡ sum (take n xs)
zeros_behind [] m zero = refl
zeros_behind [] m (suc n) = sum_zeros m (suc n)
zeros_behind (x ∷ xs) m zero = refl
zeros_behind (x ∷ xs) m (suc n) =
    let new = sum_by-cons (λ (y : ℕ). y) x (take n (xs ++ replicate m 0)) in
    let old = sum_by-cons (λ (y : ℕ). y) x (take n xs) in
    let more = zeros_behind xs m n in
    omega (arith, new, old, more)

pub all_zeros : (m n : ℕ) → sum (take n (replicate m 0)) ≡ 0
all_zeros m n = sum_zeros m n

-- a number that is not 0 is in the list
pub inside : (l : List ℕ) (i k : ℕ) → k < get_or l i 0 → i < length l
inside [] i k h = absurd (omega (arith, h))
inside (x ∷ l) zero k h = omega arith
inside (x ∷ l) (suc i) k h = (let more = inside l i k h in omega (arith, more))

some_at : {X : Type 0} (xs : List X) (i : ℕ) → i < length xs → (x : X) × (slice_get xs i ≡ Some x)
some_at [] i h = absurd (omega (arith, h))
some_at (x ∷ xs) zero h = (x, refl)
some_at (x ∷ xs) (suc i) h = some_at xs i (omega (arith, h))

-- a number that is 1 more
pub raised : (xs : List ℕ) (at x : ℕ) → at < length xs → x ≡ get_or xs at 0 + 1 → IsRaised at xs (slice_set xs at x)
raised xs at x within is =
    (length-set xs at x, λ n. (λ h. let new = sum_written (λ (y : ℕ). y) xs at n x 0 within h in omega (arith, new, is), λ h. ap sum (take_before (λ (y : ℕ). y) xs at n x h)))

pub lowered_by : (xs : List ℕ) (at x : ℕ) → at < length xs → x + 1 ≡ get_or xs at 0 → IsRaised at (slice_set xs at x) xs
lowered_by xs at x within is =
    (sym (length-set xs at x), λ n. (λ h. let new = sum_written (λ (y : ℕ). y) xs at n x 0 within h in omega (arith, new, is), λ h. sym (ap sum (take_before (λ (y : ℕ). y) xs at n x h))))

-- what changes the readiness of one
pub one_is_ready : (rs : List Record) (place : ℕ) (r t : Record) → slice_get rs place ≡ Some r → is_ready r ≡ false → is_ready t ≡ true → OneMoreReady place rs (slice_set rs place t)
one_is_ready rs place r t at was is n =
    let f : Record → ℕ = λ x. cond (is_ready x) 1 0 in
    let within = slice_get_within rs place r at in
    let old : f (get_or rs place r) ≡ 0 = ap f (get_or_from_slice_get rs place r r at) ∙ ap (λ b. cond b 1 0) was in
    let new : f t ≡ 1 = ap (λ b. cond b 1 0) is in (
      λ h. let sums = sum_written f rs place n t r within h in omega (arith, sums, old, new),
      λ h. ap (count_by is_ready) (take_before f rs place n t h),
    )

pub one_was_ready : (rs : List Record) (place : ℕ) (r t : Record) → slice_get rs place ≡ Some r → is_ready r ≡ true → is_ready t ≡ false → OneMoreReady place (slice_set rs place t) rs
one_was_ready rs place r t at was is n =
    let f : Record → ℕ = λ x. cond (is_ready x) 1 0 in
    let within = slice_get_within rs place r at in
    let old : f (get_or rs place r) ≡ 1 = ap f (get_or_from_slice_get rs place r r at) ∙ ap (λ b. cond b 1 0) was in
    let new : f t ≡ 0 = ap (λ b. cond b 1 0) is in (
      λ h. let sums = sum_written f rs place n t r within h in omega (arith, sums, old, new),
      λ h. sym (ap (count_by is_ready) (take_before f rs place n t h)),
    )

-- one more at the end
long_push : {X : Type 0} (xs : List X) (x : X) → length (xs ++ x ∷ []) ≡ length xs + 1
long_push [] x = refl
long_push (y ∷ xs) x = (let more = long_push xs x in omega (arith, more))

push_before : (rs : List Record) (r : Record) (n : ℕ) → n ≤ length rs → ready_before (rs ++ r ∷ []) n ≡ ready_before rs n
push_before rs r n h = ap (count_by is_ready) (take-append-le n rs (r ∷ []) h)

push_past : (rs : List Record) (r : Record) (n : ℕ) (b : Bool) → is_ready r ≡ b → length rs < n → ready_before (rs ++ r ∷ []) n ≡ ready_before rs n + cond b 1 0
push_past rs r n b is h =
    let f : Record → ℕ = λ x. cond (is_ready x) 1 0 in
    let long = long_push rs r in
    let all = sum_all f (rs ++ r ∷ []) n (omega (arith, h, long)) in
    let old = sum_all f rs n (omega (arith, h)) in
    let push = sum_by_push f rs r in
    let one : f r ≡ cond b 1 0 = ap (λ c. cond c 1 0) is in
    omega (arith, all, old, push, one)

pub one_more_is_ready : (rs : List Record) (r : Record) (place : ℕ) → place ≡ length rs → is_ready r ≡ true → OneMoreReady place rs (rs ++ r ∷ [])
one_more_is_ready rs r place is ready n =
    (λ h. push_past rs r n true ready (omega (arith, h, is)), λ h. push_before rs r n (omega (arith, h, is)))

same_by : (rs : List Record) (r : Record) (n : ℕ) → is_ready r ≡ false → (n ≤ length rs) ⊎ (length rs < n) → ready_before (rs ++ r ∷ []) n ≡ ready_before rs n
same_by rs r n not_ready (inl h) = push_before rs r n h
same_by rs r n not_ready (inr h) = (let more = push_past rs r n false not_ready h in omega (arith, more))

either : (m n : ℕ) → (m ≤ n) ⊎ (n < m)
either zero n = inl (omega arith)
either (suc m) zero = inr (omega arith)
either (suc m) (suc n) = elim (either m n) [ inl h ↦ inl (omega (arith, h)) | inr h ↦ inr (omega (arith, h)) ]

-- as many before each place, and so the same counts
abbrev pub AreAlike : List Record → List Record → Type 0
AreAlike old new = (n : ℕ) → ready_before new n ≡ ready_before old n

pub one_more_is_not : (rs : List Record) (r : Record) → is_ready r ≡ false → AreAlike rs (rs ++ r ∷ [])
one_more_is_not rs r not_ready n = same_by rs r n not_ready (either n (length rs))

alike_by : (rs : List Record) (place n : ℕ) (r t : Record) → slice_get rs place ≡ Some r → is_ready t ≡ is_ready r → (n ≤ place) ⊎ (place < n) → ready_before (slice_set rs place t) n ≡ ready_before rs n
alike_by rs place n r t at is (inl h) = ap (count_by is_ready) (take_before (λ (x : Record). cond (is_ready x) 1 0) rs place n t h)
alike_by rs place n r t at is (inr h) =
    let f : Record → ℕ = λ x. cond (is_ready x) 1 0 in
    let old : f (get_or rs place r) ≡ f r = ap f (get_or_from_slice_get rs place r r at) in
    let new : f t ≡ f r = ap (λ b. cond b 1 0) is in
    let sums = sum_written f rs place n t r (slice_get_within rs place r at) h in
    omega (arith, sums, old, new)

pub as_ready : (rs : List Record) (place : ℕ) (r t : Record) → slice_get rs place ≡ Some r → is_ready t ≡ is_ready r → AreAlike rs (slice_set rs place t)
as_ready rs place r t at is n = alike_by rs place n r t at is (either n place)

whole : (rs : List Record) → ready_before rs (length rs) ≡ count_by is_ready rs
whole rs = sum_all (λ (x : Record). cond (is_ready x) 1 0) rs (length rs) (omega arith)

total_past : (rs : List Record) (n : ℕ) → length rs ≤ n → ready_before rs n ≡ count_by is_ready rs
total_past rs n h = sum_all (λ (x : Record). cond (is_ready x) 1 0) rs n h

pub counts_alike : (c : ReadyCounts) (old new : List Record) → AreAlike old new → length new ≤ room_of c → AreReadyCounts c old → AreReadyCounts c new
counts_alike c old new alike fits are =
    let most = length old + length new in
    record {
      count = are.count ∙ sym (total_past old most (omega arith)) ∙ sym (alike most) ∙ total_past new most (omega arith);
      places = λ n. are.places n ∙ sym (alike (1 * n));
      groups = λ n. are.groups n ∙ sym (alike (32 * n));
      ranges = λ n. are.ranges n ∙ sym (alike (1024 * n));
      within = fits;
    }

-- the place is among those that are counted in the number at i
abbrev IsAmong : ℕ → ℕ → ℕ → Type 0
IsAmong width place i = (n : ℕ) → (i < n → place < width * n) × (n ≤ i → width * n ≤ place)

raised_by : (width place i n : ℕ) (l m : List ℕ) (old new : List Record) → IsAmong width place i → AreCounts width l old → IsRaised i l m → OneMoreReady place old new → (n ≤ i) ⊎ (i < n) → sum (take n m) ≡ ready_before new (width * n)
raised_by width place i n l m old new among are up more (inl h) =
    (up.1 n).1 h ∙ are n ∙ sym ((more (width * n)).1 ((among n).1 h))
raised_by width place i n l m old new among are up more (inr h) =
    (up.1 n).0 h ∙ ap (λ (x : ℕ). x + 1) (are n) ∙ sym ((more (width * n)).0 ((among n).0 h))

counts_raised : (width place i : ℕ) (l m : List ℕ) (old new : List Record) → IsAmong width place i → AreCounts width l old → IsRaised i l m → OneMoreReady place old new → AreCounts width m new
counts_raised width place i l m old new among are up more n = raised_by width place i n l m old new among are up more (either n i)

lowered_at : (width place i n : ℕ) (l m : List ℕ) (old new : List Record) → IsAmong width place i → AreCounts width l old → IsRaised i m l → OneMoreReady place new old → (n ≤ i) ⊎ (i < n) → sum (take n m) ≡ ready_before new (width * n)
lowered_at width place i n l m old new among are down more (inl h) =
    sym ((down.1 n).1 h) ∙ are n ∙ (more (width * n)).1 ((among n).1 h)
lowered_at width place i n l m old new among are down more (inr h) =
    let was = (down.1 n).0 h in
    let is = are n in
    let less = (more (width * n)).0 ((among n).0 h) in
    omega (arith, was, is, less)

counts_lowered : (width place i : ℕ) (l m : List ℕ) (old new : List Record) → IsAmong width place i → AreCounts width l old → IsRaised i m l → OneMoreReady place new old → AreCounts width m new
counts_lowered width place i l m old new among are down more n = lowered_at width place i n l m old new among are down more (either n i)

among_places : (place : ℕ) → IsAmong 1 place place
among_places place n = (λ h. omega (arith, h), λ h. omega (arith, h))

among_groups : (place : ℕ) → IsAmong 32 place (place / 32)
among_groups place n = (λ h. omega (arith, h), λ h. omega (arith, h))

among_ranges : (place : ℕ) → IsAmong 1024 place (place / 32 / 32)
among_ranges place n = (λ h. omega (arith, h), λ h. omega (arith, h))

one_more_total : (place : ℕ) (old new : List Record) → OneMoreReady place old new → count_by is_ready new ≡ count_by is_ready old + 1
one_more_total place old new more =
    let most = place + length old + length new + 1 in
    let one = (more most).0 (omega arith) in
    let was = total_past old most (omega arith) in
    let is = total_past new most (omega arith) in
    omega (arith, one, was, is)

same_room : (c d : ReadyCounts) → length d.places.items ≡ length c.places.items → length d.groups.items ≡ length c.groups.items → length d.ranges.items ≡ length c.ranges.items → room_of c ≡ room_of d
same_room c d places groups ranges =
    sym (
    ap (λ (x : ℕ). min x (min (32 * length d.groups.items) (1024 * length d.ranges.items))) places
    ∙ ap (λ (x : ℕ). min (length c.places.items) (min (32 * x) (1024 * length d.ranges.items))) groups
    ∙ ap (λ (x : ℕ). min (length c.places.items) (min (32 * length c.groups.items) (1024 * x))) ranges
    )

-- the counts after one is noted, and after one is forgotten
pub noted : (c d : ReadyCounts) (place : ℕ) (old new : List Record) → AreReadyCounts c old → OneMoreReady place old new → length new ≤ room_of c
    → d.count ≡ c.count + 1 → IsRaised place c.places.items d.places.items → IsRaised (place / 32) c.groups.items d.groups.items → IsRaised (place / 32 / 32) c.ranges.items d.ranges.items
    → AreReadyCounts d new
noted c d place old new are more fits count places groups ranges =
    let total = one_more_total place old new more in
    let was = are.count in
    record {
      count = omega (arith, count, total, was);
      places = counts_raised 1 place place c.places.items d.places.items old new (among_places place) are.places places more;
      groups = counts_raised 32 place (place / 32) c.groups.items d.groups.items old new (among_groups place) are.groups groups more;
      ranges = counts_raised 1024 place (place / 32 / 32) c.ranges.items d.ranges.items old new (among_ranges place) are.ranges ranges more;
      within = subst (λ (m : ℕ). length new ≤ m) (same_room c d places.0 groups.0 ranges.0) fits;
    }

pub forgotten : (c d : ReadyCounts) (place : ℕ) (old new : List Record) → AreReadyCounts c old → OneMoreReady place new old → length new ≤ room_of c
    → d.count + 1 ≡ c.count → IsRaised place d.places.items c.places.items → IsRaised (place / 32) d.groups.items c.groups.items → IsRaised (place / 32 / 32) d.ranges.items c.ranges.items
    → AreReadyCounts d new
forgotten c d place old new are more fits count places groups ranges =
    let total = one_more_total place new old more in
    let was = are.count in
    record {
      count = omega (arith, count, total, was);
      places = counts_lowered 1 place place c.places.items d.places.items old new (among_places place) are.places places more;
      groups = counts_lowered 32 place (place / 32) c.groups.items d.groups.items old new (among_groups place) are.groups groups more;
      ranges = counts_lowered 1024 place (place / 32 / 32) c.ranges.items d.ranges.items old new (among_ranges place) are.ranges ranges more;
      within = subst (λ (m : ℕ). length new ≤ m) (same_room c d (sym places.0) (sym groups.0) (sym ranges.0)) fits;
    }

-- a number is at most the instances', and not 0 where one that it counts is ready
most_of : (width : ℕ) (l : List ℕ) (rs : List Record) (i : ℕ) → AreCounts width l rs → i < length l → get_or l i 0 ≤ length rs
most_of width l rs i are within =
    let one = get_or-le-sum_by (λ (x : ℕ). x) l i 0 within in
    let all = sum_all (λ (x : ℕ). x) l (length l) (omega arith) in
    let counted = are (length l) in
    let few = sum_by-take-le (λ (x : Record). cond (is_ready x) 1 0) rs (width * length l) in
    let most = count_by-le-length is_ready rs in
    omega (arith, one, all, counted, few, most)

some_of : (width place i : ℕ) (l : List ℕ) (old new : List Record) → IsAmong width place i → AreCounts width l old → OneMoreReady place new old → i < length l → 0 < get_or l i 0
some_of width place i l old new among are more within =
    let next = are (i + 1) in
    let here = are i in
    let step = sum_by_more (λ (x : ℕ). x) l i 0 within in
    let high = (more (width * (i + 1))).0 ((among (i + 1)).0 (omega arith)) in
    let low = (more (width * i)).1 ((among i).1 (omega arith)) in
    let wide : width * i ≤ width * (i + 1) = omega arith in
    let rises = sum_rises (λ (x : Record). cond (is_ready x) 1 0) new (width * i) (width * (i + 1)) wide in
    omega (arith, next, here, step, high, low, rises)

pub most_places : (c : ReadyCounts) (rs : List Record) (i : ℕ) → AreReadyCounts c rs → i < length c.places.items → get_or c.places.items i 0 ≤ length rs
most_places c rs i are within = most_of 1 c.places.items rs i are.places within

pub most_groups : (c : ReadyCounts) (rs : List Record) (i : ℕ) → AreReadyCounts c rs → i < length c.groups.items → get_or c.groups.items i 0 ≤ length rs
most_groups c rs i are within = most_of 32 c.groups.items rs i are.groups within

pub most_ranges : (c : ReadyCounts) (rs : List Record) (i : ℕ) → AreReadyCounts c rs → i < length c.ranges.items → get_or c.ranges.items i 0 ≤ length rs
most_ranges c rs i are within = most_of 1024 c.ranges.items rs i are.ranges within

pub some_places : (c : ReadyCounts) (place : ℕ) (old new : List Record) → AreReadyCounts c old → OneMoreReady place new old → place < length c.places.items → 0 < get_or c.places.items place 0
some_places c place old new are more within = some_of 1 place place c.places.items old new (among_places place) are.places more within

pub some_groups : (c : ReadyCounts) (place : ℕ) (old new : List Record) → AreReadyCounts c old → OneMoreReady place new old → place / 32 < length c.groups.items → 0 < get_or c.groups.items (place / 32) 0
some_groups c place old new are more within = some_of 32 place (place / 32) c.groups.items old new (among_groups place) are.groups more within

pub some_ranges : (c : ReadyCounts) (place : ℕ) (old new : List Record) → AreReadyCounts c old → OneMoreReady place new old → place / 32 / 32 < length c.ranges.items → 0 < get_or c.ranges.items (place / 32 / 32) 0
some_ranges c place old new are more within = some_of 1024 place (place / 32 / 32) c.ranges.items old new (among_ranges place) are.ranges more within

pub most_count : (c : ReadyCounts) (rs : List Record) → AreReadyCounts c rs → c.count ≤ length rs
most_count c rs are = (let all = are.count in let most = count_by-le-length is_ready rs in omega (arith, all, most))

pub some_count : (c : ReadyCounts) (place : ℕ) (old new : List Record) → AreReadyCounts c old → OneMoreReady place new old → 0 < c.count
some_count c place old new are more = (let all = are.count in let total = one_more_total place new old more in omega (arith, all, total))

-- the whole sum of a list
total_of : (width : ℕ) (l : List ℕ) (rs : List Record) → AreCounts width l rs → length rs ≤ width * length l → sum l ≡ count_by is_ready rs
total_of width l rs are fits =
    sym (sum_all (λ (x : ℕ). x) l (length l) (omega arith)) ∙ are (length l) ∙ total_past rs (width * length l) fits

pub total_places : (c : ReadyCounts) (rs : List Record) → AreReadyCounts c rs → sum c.places.items ≡ count_by is_ready rs
total_places c rs are = total_of 1 c.places.items rs are.places (let fits = are.within in omega (arith, fits))

pub total_groups : (c : ReadyCounts) (rs : List Record) → AreReadyCounts c rs → sum c.groups.items ≡ count_by is_ready rs
total_groups c rs are = total_of 32 c.groups.items rs are.groups (let fits = are.within in omega (arith, fits))

pub total_ranges : (c : ReadyCounts) (rs : List Record) → AreReadyCounts c rs → sum c.ranges.items ≡ count_by is_ready rs
total_ranges c rs are = total_of 1024 c.ranges.items rs are.ranges (let fits = are.within in omega (arith, fits))

pub here_of : (width i k : ℕ) (l : List ℕ) (rs : List Record) → AreCounts width l rs → k < get_or l i 0 → (i < length l) × (width * i < length rs)
here_of width i k l rs are some =
    let within = inside l i k some in
    let next = are (i + 1) in
    let here = are i in
    let step = sum_by_more (λ (x : ℕ). x) l i 0 within in
    let most = sum_by-take-le (λ (x : Record). cond (is_ready x) 1 0) rs (width * (i + 1)) in (
      within,
      elim (either (length rs) (width * i)) [
        | inl past ↦ absurd (let all = total_past rs (width * i) past in omega (arith, next, here, step, most, all, some))
        | inr h ↦ h
      ],
    )

-- what the walk over the places comes to
one_if : (b : Bool) (k : ℕ) → k < cond b 1 0 → (b ≡ true) × (k ≡ 0)
one_if true k h = (refl, omega (arith, h))
one_if false k h = absurd (omega (arith, h))

more_if : (rs : List Record) (n : ℕ) (r : Record) (b : Bool) → slice_get rs n ≡ Some r → is_ready r ≡ b → ready_before rs (n + 1) ≡ ready_before rs n + cond b 1 0
more_if rs n r true at is = count_by_more_yes is_ready rs n r (slice_get_within rs n r at) (ap is_ready (get_or_from_slice_get rs n r r at) ∙ is)
more_if rs n r false at is =
    (let same = count_by_more_no is_ready rs n r (slice_get_within rs n r at) (ap is_ready (get_or_from_slice_get rs n r r at) ∙ is) in omega (arith, same))

found_at : (place k left : ℕ) (l : List ℕ) (rs : List Record) (r : Record) → AreCounts 1 l rs → slice_get rs place ≡ Some r → left < get_or l place 0 → place < length l → sum (take place l) + left ≡ k → IsReadyPlace rs k place
found_at place k left l rs r are at some within skipped =
    let next = are (place + 1) in
    let here = are place in
    let step = sum_by_more (λ (x : ℕ). x) l place 0 within in
    let more = more_if rs place r (is_ready r) at refl in
    let one : 1 * (place + 1) ≡ place + 1 = omega arith in
    let zero_of : 1 * place ≡ place = omega arith in
    let next_is = next ∙ ap (ready_before rs) one in
    let here_is = here ∙ ap (ready_before rs) zero_of in
    let so = one_if (is_ready r) left (omega (arith, next_is, here_is, step, more, some)) in
    let none = so.1 in
    (r, at, so.0, omega (arith, here_is, skipped, none))

pub found : (c : ReadyCounts) (place k left : ℕ) (rs : List Record) → AreReadyCounts c rs → left < get_or c.places.items place 0 → sum (take place c.places.items) + left ≡ k → IsReadyPlace rs k place
found c place k left rs are some skipped =
    let here = here_of 1 place left c.places.items rs are.places some in
    let low : place < length rs = (let h = here.1 in omega (arith, h)) in
    let (r, at) = some_at rs place low in
    found_at place k left c.places.items rs r are.places at some here.0 skipped

-- from the counts of wide groups to those of the groups in them: as many stand before
pub down_groups : (c : ReadyCounts) (i : ℕ) (rs : List Record) → AreReadyCounts c rs → sum (take (i * 32) c.groups.items) ≡ sum (take i c.ranges.items)
down_groups c i rs are =
    let same : 32 * (i * 32) ≡ 1024 * i = omega arith in
    are.groups (i * 32) ∙ ap (ready_before rs) same ∙ sym (are.ranges i)

pub down_places : (c : ReadyCounts) (i : ℕ) (rs : List Record) → AreReadyCounts c rs → sum (take (i * 32) c.places.items) ≡ sum (take i c.groups.items)
down_places c i rs are =
    let same : 1 * (i * 32) ≡ 32 * i = omega arith in
    are.places (i * 32) ∙ ap (ready_before rs) same ∙ sym (are.groups i)

-- one more of a list
pub next_of : (rs : List Record) (n : ℕ) (r : Record) → slice_get rs n ≡ Some r → take (n + 1) rs ≡ take n rs ++ r ∷ []
next_of rs n r at =
    let one : n + 1 ≡ suc n = omega arith in
    ap (λ (m : ℕ). take m rs) one ∙ take-suc rs n r (slice_get_within rs n r at) ∙ ap (λ x. take n rs ++ x ∷ []) (get_or_from_slice_get rs n r r at)

pub next_ready : (rs : List Record) (n : ℕ) (r : Record) → slice_get rs n ≡ Some r → is_ready r ≡ true → OneMoreReady n (take n rs) (take (n + 1) rs)
next_ready rs n r at ready =
    let long : length (take n rs) ≡ n = length-take-le n rs (let within = slice_get_within rs n r at in omega (arith, within)) in
    subst (OneMoreReady n (take n rs)) (sym (next_of rs n r at)) (one_more_is_ready (take n rs) r n (sym long) ready)

pub next_not_ready : (rs : List Record) (n : ℕ) (r : Record) → slice_get rs n ≡ Some r → is_ready r ≡ false → AreAlike (take n rs) (take (n + 1) rs)
next_not_ready rs n r at not_ready =
    subst (AreAlike (take n rs)) (sym (next_of rs n r at)) (one_more_is_not (take n rs) r not_ready)

pub few_taken : (rs : List Record) (n m : ℕ) → length rs ≤ m → length (take n rs) ≤ m
few_taken rs n m h = (let long = length-take n rs in omega (arith, long, h))

-- the instances, once the one at a place was written
module _ (c : ReadyCounts) (old : List Record) (place : ℕ) (r t : Record) (at : slice_get old place ≡ Some r) (are : AreReadyCounts c old) where
  pub set_within : place < length (slice_set old place t)
  set_within = (let long = length-set old place t in let within = slice_get_within old place r at in omega (arith, long, within))

  pub was_within : place < length old
  was_within = slice_get_within old place r at

  pub set_fits : length (slice_set old place t) ≤ room_of c
  set_fits = subst (λ (n : ℕ). n ≤ room_of c) (sym (length-set old place t)) are.within

  pub set_alike : is_ready t ≡ is_ready r → AreReadyCounts c (slice_set old place t)
  set_alike same = counts_alike c old (slice_set old place t) (as_ready old place r t at same) set_fits are

-- the records of the entries, once one is written or added
pub values_written : (es : List (Pid × Record)) (k : ℕ) (p : Pid) (v w : Record) → slice_get es k ≡ Some (p, v) → values_of (set_value_at es k w) ≡ slice_set (values_of es) k w
values_written [] k p v w h = refl
values_written (e ∷ es) zero p v w h = refl
values_written (e ∷ es) (suc k) p v w h = ap (λ l. e.1 ∷ l) (values_written es k p v w h)

values_pushed : (es : List (Pid × Record)) (e : Pid × Record) → values_of (es ++ e ∷ []) ≡ values_of es ++ e.1 ∷ []
values_pushed [] e = refl
values_pushed (x ∷ es) e = ap (λ l. x.1 ∷ l) (values_pushed es e)

module _ (c : ReadyCounts) (es : List (Pid × Record)) (k : ℕ) (p : Pid) (v w : Record) (at : slice_get es k ≡ Some (p, v)) (are : AreReadyCounts c (values_of es)) where
  value_at : slice_get (values_of es) k ≡ Some v
  value_at = record_of es k p v at

  pub value_within : k < length (values_of es)
  value_within = slice_get_within (values_of es) k v value_at

  pub value_long : length (values_of (set_value_at es k w)) ≡ length (values_of es)
  value_long = ap length (values_written es k p v w at) ∙ length-set (values_of es) k w

  pub value_fits : length (values_of (set_value_at es k w)) ≤ room_of c
  value_fits = subst (λ (n : ℕ). n ≤ room_of c) (sym value_long) are.within

  pub value_is_ready : is_ready v ≡ false → is_ready w ≡ true → OneMoreReady k (values_of es) (values_of (set_value_at es k w))
  value_is_ready was is = subst (OneMoreReady k (values_of es)) (sym (values_written es k p v w at)) (one_is_ready (values_of es) k v w value_at was is)

  pub value_was_ready : is_ready v ≡ true → is_ready w ≡ false → OneMoreReady k (values_of (set_value_at es k w)) (values_of es)
  value_was_ready was is = subst (λ (l : List Record). OneMoreReady k l (values_of es)) (sym (values_written es k p v w at)) (one_was_ready (values_of es) k v w value_at was is)

  pub value_alike : is_ready w ≡ is_ready v → AreReadyCounts c (values_of (set_value_at es k w))
  value_alike same =
      subst (AreReadyCounts c) (sym (values_written es k p v w at))
      (counts_alike c (values_of es) (slice_set (values_of es) k w) (as_ready (values_of es) k v w value_at same) (subst (λ (n : ℕ). n ≤ room_of c) (sym (length-set (values_of es) k w)) are.within) are)

-- counts of the records of the entries, once one is written
pub value_counted : (c : ReadyCounts) (es : List (Pid × Record)) (k : ℕ) (p : Pid) (v w : Record) → slice_get es k ≡ Some (p, v) → AreReadyCounts c (slice_set (values_of es) k w) → AreReadyCounts c (values_of (set_value_at es k w))
value_counted c es k p v w at are = subst (AreReadyCounts c) (sym (values_written es k p v w at)) are

-- one more entry
module _ (c : ReadyCounts) (es : List (Pid × Record)) (p : Pid) (r : Record) (room : length es < room_of c) (are : AreReadyCounts c (values_of es)) where
  values_long : length (values_of es) ≡ length es
  values_long = length-values_of es

  pub entry_fits : length (values_of (es ++ (p, r) ∷ [])) ≤ room_of c
  entry_fits =
      let long = ap length (values_pushed es (p, r)) ∙ long_push (values_of es) r in
      omega (arith, long, values_long, room)

  pub entry_long : length es < length (values_of (es ++ (p, r) ∷ []))
  entry_long =
      let long = ap length (values_pushed es (p, r)) ∙ long_push (values_of es) r in
      omega (arith, long, values_long)

  pub entry_is_ready : (place : ℕ) → place ≡ length es → is_ready r ≡ true → OneMoreReady place (values_of es) (values_of (es ++ (p, r) ∷ []))
  entry_is_ready place is ready =
      subst (OneMoreReady place (values_of es)) (sym (values_pushed es (p, r))) (one_more_is_ready (values_of es) r place (is ∙ sym values_long) ready)

  pub entry_is_not : is_ready r ≡ false → AreReadyCounts c (values_of (es ++ (p, r) ∷ []))
  entry_is_not not_ready =
      counts_alike c (values_of es) (values_of (es ++ (p, r) ∷ [])) (subst (AreAlike (values_of es)) (sym (values_pushed es (p, r))) (one_more_is_not (values_of es) r not_ready)) entry_fits are
