-- The places of the instances of each set, and how they change with the instances.
use Rattle.std.proofs.Common.{◌≡◌, ℕ, zero, suc, ◌+◌, ◌-◌, ◌<◌, ◌≤◌, Bool, true, false, not, nat_eq, cond, if◌then◌else◌, List, [], ◌∷◌, ◌++◌, Option, Some, refl, ap, sym, ◌∙◌, subst, true≢false, is_some, unwrap_or, length, map, sum_by, count_by, take, remove, get_or, slice_get, slice_set, append_assoc, append-nil, Vec, Global, vec_capacity, arith}
use Rattle.std.specs.List.{AllByRecursion, filter}
use Rattle.std.specs.Map.{keys_of}
use Rattle.std.proofs.lemmas.Bool.{eq-eqb, eqb-true, ne_eqb, le-ltb, lt-ltb}
use Rattle.std.proofs.lemmas.List.{get_or-set_same, get_or-set_other}
use Rattle.std.proofs.lemmas.List.Sums.{sum_by-append}
use Rattle.std.proofs.lemmas.Option.{slice_get_within, get_or_from_slice_get, slice_get-get_or}
use Rattle.std.proofs.Math.ListN.{get_or-map}
use Rattle.std.proofs.Math.Seq.{take-suc}
use Rattle.indexmap.specs.Layout.{set_value_at}
use Rattle.sdl_instances_processes.proofs.Entries.{set_value_at-is}
use Rattle.sdl_signal.specs.declared.ids.SetId.{SetId}
use Rattle.sdl_signal.specs.declared.values.Pid.{Pid}
use Rattle.sdl_signal.specs.declared.values.Pid.TheVariants as pid
use Rattle.sdl_instances_processes.specs.Record.{Record}
use Rattle.sdl_instances_processes.specs.Places.{is_of, at_if, places, set_places, lowered, left, AreBySet}

-- a list of places has room for so many more
abbrev pub HasRoomFor : ℕ → Vec ℕ Global → Type 0
HasRoomFor room v = length v.items + room ≤ vec_capacity v

abbrev pub items_of : Vec ℕ Global → List ℕ
items_of v = v.items

pub all_fit : (vs : List (Vec ℕ Global)) → AllByRecursion (HasRoomFor 0) vs
all_fit [] = tt
all_fit (v ∷ vs) = (omega (arith, v.ok.0, v.ok.1), all_fit vs)

module _ {X : Type 0} (P : X → Type 0) where
  pub all_at : (xs : List X) (i : ℕ) (d : X) → AllByRecursion P xs → i < length xs → P (get_or xs i d)
  all_at [] i d h within = absurd (omega (arith, within))
  all_at (x ∷ xs) zero d h within = h.0
  all_at (x ∷ xs) (suc i) d h within = all_at xs i d h.1 (omega (arith, within))

  pub all_set : (xs : List X) (i : ℕ) (x : X) → AllByRecursion P xs → P x → AllByRecursion P (slice_set xs i x)
  all_set [] i y h is = tt
  all_set (x ∷ xs) zero y h is = (is, h.1)
  all_set (x ∷ xs) (suc i) y h is = (h.0, all_set xs i y h.1 is)

  written_next : (xs : List X) (i : ℕ) (x : X) → AllByRecursion P (take i xs) → P x → AllByRecursion P (take (suc i) (slice_set xs i x))
  written_next [] i y h is = tt
  written_next (x ∷ xs) zero y h is = (is, tt)
  written_next (x ∷ xs) (suc i) y h is = (h.0, written_next xs i y h.1 is)

  -- a loop that has come to the place i writes there
  pub all_written : (xs : List X) (i : ℕ) (x : X) → AllByRecursion P (take i xs) → P x → AllByRecursion P (take (i + 1) (slice_set xs i x))
  all_written xs i x h is =
      let one : suc i ≡ i + 1 = omega arith in
      subst (λ (n : ℕ). AllByRecursion P (take n (slice_set xs i x))) one (written_next xs i x h is)

pub all_less : (room less : ℕ) (vs : List (Vec ℕ Global)) → less ≤ room → AllByRecursion (HasRoomFor room) vs → AllByRecursion (HasRoomFor less) vs
all_less room less [] h all = tt
all_less room less (v ∷ vs) h all = ((let fits = all.0 in omega (arith, h, fits)), all_less room less vs h all.1)

-- one more list, which is empty, has no place
pub one_more_list : (xs : List (List ℕ)) (n : ℕ) → get_or (xs ++ [] ∷ []) n [] ≡ get_or xs n []
one_more_list [] zero = refl
one_more_list [] (suc n) = refl
one_more_list (x ∷ xs) zero = refl
one_more_list (x ∷ xs) (suc n) = one_more_list xs n

module _ (test : Pid × Record → Bool) where
  -- one more entry
  pub one_more_place : (es : List (Pid × Record)) (n q : ℕ) (e : Pid × Record) → q ≡ n + length es → places test n (es ++ e ∷ []) ≡ places test n es ++ at_if q (test e)
  one_more_place [] n q e is =
      let here : n ≡ q = omega (arith, is) in
      append-nil (at_if n (test e)) ∙ ap (λ (m : ℕ). at_if m (test e)) here
  one_more_place (x ∷ es) n q e is =
      ap (λ l. at_if n (test x) ++ l) (one_more_place es (n + 1) q e (omega (arith, is)))
      ∙ sym (append_assoc (at_if n (test x)) (places test (n + 1) es) (at_if q (test e)))

  -- another entry that the test cannot tell from it
  pub same_places : (es : List (Pid × Record)) (n k : ℕ) (e t : Pid × Record) → slice_get es k ≡ Some e → test t ≡ test e → places test n (slice_set es k t) ≡ places test n es
  same_places [] n k e t at same = refl
  same_places (x ∷ es) n zero e t at same =
      ap (λ (b : Bool). at_if n b ++ places test (n + 1) es) (same ∙ ap (λ (o : Option (Pid × Record)). test (unwrap_or o x)) (sym at))
  same_places (x ∷ es) n (suc k) e t at same = ap (λ l. at_if n (test x) ++ l) (same_places es (n + 1) k e t at same)

-- what goes and what is lowered
left_cons : (k x : ℕ) (b : Bool) (xs : List ℕ) → not (nat_eq x k) ≡ b → left k (x ∷ xs) ≡ cond b (lowered k x ∷ left k xs) (left k xs)
left_cons k x true xs is = ap (λ (c : Bool). map (lowered k) (cond c (x ∷ filter (λ n. not (nat_eq n k)) xs) (filter (λ n. not (nat_eq n k)) xs))) is
left_cons k x false xs is = ap (λ (c : Bool). map (lowered k) (cond c (x ∷ filter (λ n. not (nat_eq n k)) xs) (filter (λ n. not (nat_eq n k)) xs))) is

low : (k n : ℕ) → n < k → lowered k n ≡ n
low k n h = ap (λ b. if b then n - 1 else n) (le-ltb k n (omega (arith, h)))

high : (k n : ℕ) → k ≤ n → lowered k (n + 1) ≡ n
high k n h =
    let less : n + 1 - 1 ≡ n = omega arith in
    ap (λ b. if b then n + 1 - 1 else n + 1) (lt-ltb k (n + 1) (omega (arith, h))) ∙ less

differs : (n k : ℕ) → (n ≡ k → ⊥) → not (nat_eq n k) ≡ true
differs n k h = ap not (ne_eqb n k h)

left_below : (k n : ℕ) (b : Bool) (xs : List ℕ) → n < k → left k (at_if n b ++ xs) ≡ at_if n b ++ left k xs
left_below k n false xs h = refl
left_below k n true xs h =
    left_cons k n true xs (differs n k (λ e. omega (arith, h, e))) ∙ ap (λ m. m ∷ left k xs) (low k n h)

left_here : (k : ℕ) (b : Bool) (xs : List ℕ) → left k (at_if k b ++ xs) ≡ left k xs
left_here k false xs = refl
left_here k true xs = left_cons k k false xs (ap not (eq-eqb k k refl))

left_over : (k n : ℕ) (b : Bool) (xs : List ℕ) → k ≤ n → left k (at_if (n + 1) b ++ xs) ≡ at_if n b ++ left k xs
left_over k n false xs h = refl
left_over k n true xs h =
    left_cons k (n + 1) true xs (differs (n + 1) k (λ e. omega (arith, h, e))) ∙ ap (λ m. m ∷ left k xs) (high k n h)

module _ (test : Pid × Record → Bool) where
  left_later : (es : List (Pid × Record)) (k n : ℕ) → k ≤ n → left k (places test (n + 1) es) ≡ places test n es
  left_later [] k n h = refl
  left_later (e ∷ es) k n h =
      left_over k n (test e) (places test (n + 1 + 1) es) h ∙ ap (λ l. at_if n (test e) ++ l) (left_later es k (n + 1) (omega (arith, h)))

  -- once the entry at k is gone, the later ones are lower
  left_from : (es : List (Pid × Record)) (n k q : ℕ) → q ≡ n + k → left q (places test n es) ≡ places test n (remove es k)
  left_from [] n zero q is = refl
  left_from [] n (suc k) q is = refl
  left_from (e ∷ es) n zero q is =
      let here : n ≡ q = omega (arith, is) in
      ap (λ (m : ℕ). left q (at_if m (test e) ++ places test (m + 1) es)) here
      ∙ left_here q (test e) (places test (q + 1) es)
      ∙ left_later es q q (omega arith)
      ∙ ap (λ (m : ℕ). places test m es) (sym here)
  left_from (e ∷ es) n (suc k) q is =
      left_below q n (test e) (places test (n + 1) es) (omega (arith, is))
      ∙ ap (λ l. at_if n (test e) ++ l) (left_from es (n + 1) k q (omega (arith, is)))

  pub left_places : (es : List (Pid × Record)) (k : ℕ) → left k (places test 0 es) ≡ places test 0 (remove es k)
  left_places es k = left_from es 0 k k (omega arith)

-- a record that is written changes no set
pub by_set_written : (lists : List (List ℕ)) (es : List (Pid × Record)) (k : ℕ) (p : Pid) (v w : Record) → slice_get es k ≡ Some (p, v) → AreBySet lists es → AreBySet lists (slice_set es k (p, w))
by_set_written lists es k p v w at are set = are set ∙ sym (same_places (λ e. is_of set e.0) es 0 k (p, v) (p, w) at refl)

pub by_set_value : (lists : List (List ℕ)) (es : List (Pid × Record)) (k : ℕ) (p : Pid) (v w : Record) → slice_get es k ≡ Some (p, v) → AreBySet lists es → AreBySet lists (set_value_at es k w)
by_set_value lists es k p v w at are =
    subst (AreBySet lists) (sym (set_value_at-is es k (p, v) w at)) (by_set_written lists es k p v w at are)

pub by_set_left : (lists : List (List ℕ)) (es : List (Pid × Record)) (k : ℕ) → AreBySet lists es → AreBySet (map (left k) lists) (remove es k)
by_set_left lists es k are set =
    get_or-map (left k) lists set.0 [] ∙ ap (left k) (are set) ∙ left_places (λ e. is_of set e.0) es k

-- an entry that is of no set
pub by_set_none : (lists : List (List ℕ)) (es : List (Pid × Record)) (e : Pid × Record) → ((set : SetId) → is_of set e.0 ≡ false) → AreBySet lists es → AreBySet lists (es ++ e ∷ [])
by_set_none lists es e none are set =
    let test : Pid × Record → Bool = λ x. is_of set x.0 in
    are set ∙ sym (append-nil (set_places set es)) ∙ ap (λ b. set_places set es ++ at_if (length es) b) (sym (none set)) ∙ sym (one_more_place test es 0 (length es) e (omega arith))

-- the place of one more of a set stands behind those of the set
module _ (lists : List (List ℕ)) (es : List (Pid × Record)) (own : SetId) (serial place : ℕ) (r : Record) (within : own.0 < length lists) (is : place ≡ length es) (are : AreBySet lists es) where
  abbrev e : Pid × Record
  e = (pid.Inst own serial, r)

  abbrev more : List (List ℕ)
  more = slice_set lists own.0 (get_or lists own.0 [] ++ place ∷ [])

  one_in : (set : SetId) (b : Bool) → is_of set e.0 ≡ b → set_places set (es ++ e ∷ []) ≡ set_places set es ++ at_if place b
  one_in set b h =
      one_more_place (λ x. is_of set x.0) es 0 place e (omega (arith, is)) ∙ ap (λ c. set_places set es ++ at_if place c) h

  here : (set : SetId) → own.0 ≡ set.0 → get_or more set.0 [] ≡ set_places set (es ++ e ∷ [])
  here set same =
      ap (λ (n : ℕ). get_or more n []) (sym same)
      ∙ get_or-set_same lists own.0 (get_or lists own.0 [] ++ place ∷ []) [] within
      ∙ ap (λ (n : ℕ). get_or lists n [] ++ place ∷ []) same
      ∙ ap (λ l. l ++ place ∷ []) (are set)
      ∙ sym (one_in set true (eq-eqb own.0 set.0 same))

  other : (set : SetId) → (own.0 ≡ set.0 → ⊥) → get_or more set.0 [] ≡ set_places set (es ++ e ∷ [])
  other set differ =
      get_or-set_other lists own.0 set.0 (get_or lists own.0 [] ++ place ∷ []) [] (λ h. differ (sym h))
      ∙ are set
      ∙ sym (append-nil (set_places set es))
      ∙ sym (one_in set false (ne_eqb own.0 set.0 differ))

  by_case : (set : SetId) (b : Bool) → nat_eq own.0 set.0 ≡ b → get_or more set.0 [] ≡ set_places set (es ++ e ∷ [])
  by_case set true h = here set (eqb-true own.0 set.0 h)
  by_case set false h = other set (λ same. true≢false (sym (eq-eqb own.0 set.0 same) ∙ h))

  pub by_set_one_more : AreBySet more (es ++ e ∷ [])
  by_set_one_more set = by_case set (nat_eq own.0 set.0) refl

-- lists that are read alike
pub by_set_same : (old new : List (List ℕ)) (es : List (Pid × Record)) → ((n : ℕ) → get_or new n [] ≡ get_or old n []) → AreBySet old es → AreBySet new es
by_set_same old new es same are set = same set.0 ∙ are set

-- how many there are, and the place of each
count_first : (set : SetId) (p : Pid) (ps : List Pid) (b : Bool) → is_of set p ≡ b → count_by (is_of set) (p ∷ ps) ≡ cond b 1 0 + count_by (is_of set) ps
count_first set p ps b is =
    let f : Pid → ℕ = λ x. cond (is_of set x) 1 0 in
    let parts = sum_by-append f (p ∷ []) ps in
    let one : sum_by f (p ∷ []) ≡ f p = omega arith in
    let same : f p ≡ cond b 1 0 = ap (λ c. cond c 1 0) is in
    omega (arith, parts, one, same)

length_if : (b : Bool) (n m : ℕ) (xs : List ℕ) → length xs ≡ m → length (at_if n b ++ xs) ≡ cond b 1 0 + m
length_if true n m xs h = omega (arith, h)
length_if false n m xs h = omega (arith, h)

count_from : (set : SetId) (es : List (Pid × Record)) (n : ℕ) → length (places (λ e. is_of set e.0) n es) ≡ count_by (is_of set) (keys_of es)
count_from set [] n = refl
count_from set (e ∷ es) n =
    length_if (is_of set e.0) n (count_by (is_of set) (keys_of es)) (places (λ x. is_of set x.0) (n + 1) es) (count_from set es (n + 1))
    ∙ sym (count_first set e.0 (keys_of es) (is_of set e.0) refl)

pub count_set : (set : SetId) (es : List (Pid × Record)) → length (set_places set es) ≡ count_by (is_of set) (keys_of es)
count_set set es = count_from set es 0

abbrev IsPlaceAt : SetId → List (Pid × Record) → ℕ → ℕ → ℕ → Type 0
IsPlaceAt set es n j x =
    (k : ℕ) × (p : Pid) × (x ≡ n + k) × (k < length es) × (slice_get (keys_of es) k ≡ Some p) × (is_of set p ≡ true) × (count_by (is_of set) (take k (keys_of es)) ≡ j)

later : (set : SetId) (e : Pid × Record) (es : List (Pid × Record)) (n i j x : ℕ) (b : Bool) → is_of set e.0 ≡ b → j ≡ cond b 1 0 + i → IsPlaceAt set es (n + 1) i x → IsPlaceAt set (e ∷ es) n j x
later set e es n i j x b is more (k, p, place, within, at, of, others) =
    let first = count_first set e.0 (take k (keys_of es)) b is in
    (suc k, p, omega (arith, place), omega (arith, within), at, of, omega (arith, first, others, more))

place_by : (set : SetId) (e : Pid × Record) (es : List (Pid × Record)) (n : ℕ) (b : Bool) → is_of set e.0 ≡ b
    → ((j x : ℕ) → slice_get (places (λ y. is_of set y.0) (n + 1) es) j ≡ Some x → IsPlaceAt set es (n + 1) j x)
    → (j x : ℕ) → slice_get (at_if n b ++ places (λ y. is_of set y.0) (n + 1) es) j ≡ Some x → IsPlaceAt set (e ∷ es) n j x
place_by set e es n true is more zero x h =
    let here : n ≡ x = ap (λ o. unwrap_or o n) h in
    (0, e.0, omega (arith, here), omega arith, refl, is, refl)
place_by set e es n true is more (suc j) x h = later set e es n j (suc j) x true is (omega arith) (more j x h)
place_by set e es n false is more j x h = later set e es n j j x false is (omega arith) (more j x h)

place_from : (set : SetId) (es : List (Pid × Record)) (n j x : ℕ) → slice_get (places (λ y. is_of set y.0) n es) j ≡ Some x → IsPlaceAt set es n j x
place_from set [] n j x h = absurd (true≢false (sym (ap is_some h)))
place_from set (e ∷ es) n j x h = place_by set e es n (is_of set e.0) refl (λ i y k. place_from set es (n + 1) i y k) j x h

pub place_at : (set : SetId) (es : List (Pid × Record)) (j x : ℕ) → slice_get (set_places set es) j ≡ Some x
    → (p : Pid) × (x < length es) × (slice_get (keys_of es) x ≡ Some p) × (is_of set p ≡ true) × (count_by (is_of set) (take x (keys_of es)) ≡ j)
place_at set es j x h =
    let (k, p, is, within, at, of, others) = place_from set es 0 j x h in
    let same : k ≡ x = omega (arith, is) in
    subst (λ (m : ℕ). (q : Pid) × (m < length es) × (slice_get (keys_of es) m ≡ Some q) × (is_of set q ≡ true) × (count_by (is_of set) (take m (keys_of es)) ≡ j)) same (p, within, at, of, others)

-- what is looked up among the places of a set
module _ (set : SetId) (es : List (Pid × Record)) (ns : List ℕ) (k : ℕ) (is : ns ≡ set_places set es) (few : k < count_by (is_of set) (keys_of es)) where
  pub among : k < length ns
  among = (let long = ap length is ∙ count_set set es in omega (arith, long, few))

  pub chosen : (p : Pid) × (get_or ns k 0 < length es) × (slice_get (keys_of es) (get_or ns k 0) ≡ Some p) × (is_of set p ≡ true) × (count_by (is_of set) (take (get_or ns k 0) (keys_of es)) ≡ k)
  chosen = place_at set es k (get_or ns k 0) (ap (λ (l : List ℕ). slice_get l k) (sym is) ∙ slice_get-get_or ns k 0 among)

-- one more entry of a list
pub take_one_more : (es : List (Pid × Record)) (n : ℕ) (e : Pid × Record) → slice_get es n ≡ Some e → take (n + 1) es ≡ take n es ++ e ∷ []
take_one_more es n e at =
    let one : n + 1 ≡ suc n = omega arith in
    ap (λ (m : ℕ). take m es) one ∙ take-suc es n e (slice_get_within es n e at) ∙ ap (λ x. take n es ++ x ∷ []) (get_or_from_slice_get es n e e at)
