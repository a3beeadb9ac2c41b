-- A port in a queue for each signal: which signal is the next, which is the last, and how the queues follow the list.
use Rattle.std.proofs.Common.{◌≡◌, ℕ, ◌+◌, ◌-◌, ◌<◌, ◌≤◌, Bool, Bor, true, false, cond, nat_eq, List, [], ◌∷◌, ◌++◌, Option, None, Some, ◌⊎◌, inl, inr, refl, ap, sym, ◌∙◌, subst, true≢false, length, map, get_or, slice_set, append-nil, arith}
use Rattle.std.specs.List.{filter, AllByRecursion}
use Rattle.std.specs.Slice.{IsItemAt, IsGetResult}
use Rattle.std.proofs.lemmas.Bool.{cases_eq, cases_order, cond-true, cond-false, eqb-true, eq-eqb, ne_eqb}
use Rattle.std.proofs.lemmas.List.{get_or-map, get_or-set_same, get_or-set_other, get_or_past, length-map, map-set, get_or_push, length_push, nil_from_length, same_from_push, map_push}
use Rattle.std.proofs.lemmas.List.Elements.{filter-append}
use Rattle.sdl_signal.specs.declared.ids.SignalId.{SignalId}
use Rattle.sdl_signal.specs.declared.values.Item.{Item}
use Rattle.sdl_instances_processes.specs.declared.numbered.Numbered.{Numbered}
use Rattle.sdl_instances_processes.specs.declared.found.Found.{Found}
use Rattle.sdl_instances_processes.specs.Ports.{AllSaved, TakesOut, next_in}
use Rattle.sdl_instances_processes.specs.Arrivals.{item_of, is_of_signal, without, AreBySignal, Rises, IsFirst, IsFirstOf, IsLast, IsLastOf}
use Rattle.sdl_instances_processes.proofs.Ports.{either, all_passed, cons_taken}

none_is_one : (a : Numbered) (xs : List Numbered) → [] ≡ a ∷ xs → ⊥
none_is_one a xs h = (let z : 0 ≡ length (a ∷ xs) = ap length h in omega (arith, z))

no_last : (xs : List Numbered) (a : Numbered) → [] ≡ xs ++ a ∷ [] → ⊥
no_last [] a h = none_is_one a [] h
no_last (b ∷ xs) a h = none_is_one b (xs ++ a ∷ []) h

firsts_same : (a b : Numbered) (xs bs : List Numbered) → a ∷ xs ≡ b ∷ bs → (a ≡ b) × (xs ≡ bs)
firsts_same a b xs bs h = (cc, cc)

as_pushed : (a : Numbered) (xs : List Numbered) → (front : List Numbered) × (z : Numbered) × (a ∷ xs ≡ front ++ z ∷ [])
as_pushed a [] = ([], a, refl)
as_pushed a (b ∷ xs) = (let (front, z, is) = as_pushed b xs in (a ∷ front, z, ap (λ (l : List Numbered). a ∷ l) is))

-- what a queue lends at its ends
pub no_front : (items : List Numbered) → IsItemAt items 0 None → items ≡ []
no_front items h = (let short = h.3 in nil_from_length items (omega (arith, short)))

pub has_front : (items : List Numbered) (x : Bor Numbered) → IsItemAt items 0 (Some x) → (rest : List Numbered) × (items ≡ x.now ∷ rest)
has_front [] x h = (let some = h.3.0 in absurd (omega (arith, some)))
has_front (a ∷ items) x h = (items, ap (λ (b : Numbered). b ∷ items) (sym (h.3.1 a)))

pub no_back : (items : List Numbered) (n : ℕ) → IsGetResult items 0 n None → items ≡ []
no_back items n h = (let short = h.3 in nil_from_length items (omega (arith, short)))

pub has_back : (items : List Numbered) (n : ℕ) (x : Bor Numbered) → n ≡ length items → IsGetResult items 0 (n - 1) (Some x) → (front : List Numbered) × (items ≡ front ++ x.now ∷ [])
has_back [] n x e h = (let some = h.3.0 in absurd (omega (arith, some)))
has_back (a ∷ items) n x e h =
    let (front, z, is) = as_pushed a items in
    let long : length (a ∷ items) ≡ length front + 1 = ap length is ∙ length_push front z in
    let at : length front ≡ n - 1 = omega (arith, long, e) in
    let same : x.now ≡ z = h.3.1 z ∙ ap (λ (l : List Numbered). get_or l (n - 1) z) is ∙ get_or_push front z z (n - 1) at in
    (front, is ∙ ap (λ (b : Numbered). front ++ b ∷ []) (sym same))

-- one more queue is looked at
next_or_before : (n t : ℕ) → t < n + 1 → (t ≡ n) ⊎ (t < n)
next_or_before n t h =
    elim (cases_order t n) [
      | inl same ↦ inl same
      | inr other ↦ elim other [
        | inl less ↦ inr less
        | inr more ↦ absurd (omega (arith, h, more))
      ]
    ]

within_queues : (queues : List (List Numbered)) (t : ℕ) (b : Numbered) (more : List Numbered) → get_or queues t [] ≡ b ∷ more → t < length queues
within_queues queues t b more h =
    elim (cases_order t (length queues)) [
      | inl same ↦ absurd (none_is_one b more (sym (get_or_past queues t [] (omega (arith, same))) ∙ h))
      | inr other ↦ elim other [
        | inl less ↦ less
        | inr past ↦ absurd (none_is_one b more (sym (get_or_past queues t [] (omega (arith, past))) ∙ h))
      ]
    ]

-- what a filter keeps
module _ (p : Numbered → Bool) where
  kept : (a : Numbered) (xs : List Numbered) → p a ≡ true → filter p (a ∷ xs) ≡ a ∷ filter p xs
  kept a xs h = cond-true (p a) (a ∷ filter p xs) (filter p xs) h

  left_out : (a : Numbered) (xs : List Numbered) → p a ≡ false → filter p (a ∷ xs) ≡ filter p xs
  left_out a xs h = cond-false (p a) (a ∷ filter p xs) (filter p xs) h

  first_passes : (xs : List Numbered) (b : Numbered) (more : List Numbered) → filter p xs ≡ b ∷ more → p b ≡ true
  first_passes [] b more h = absurd (none_is_one b more h)
  first_passes (a ∷ xs) b more h =
      elim (either (p a)) [
        | inl is ↦ subst (λ (x : Numbered). p x ≡ true) (firsts_same a b (filter p xs) more (sym (kept a xs is) ∙ h)).0 is
        | inr not ↦ first_passes xs b more (sym (left_out a xs not) ∙ h)
      ]

  pushed : (xs : List Numbered) (a : Numbered) → filter p (xs ++ a ∷ []) ≡ filter p xs ++ filter p (a ∷ [])
  pushed xs a = filter-append p xs (a ∷ [])

module _ (P : Numbered → Type 0) where
  all_filter : (p : Numbered → Bool) (xs : List Numbered) → AllByRecursion P xs → AllByRecursion P (filter p xs)
  all_filter p [] h = tt
  all_filter p (a ∷ xs) h =
      elim (either (p a)) [
        | inl is ↦ subst (AllByRecursion P) (sym (kept p a xs is)) (h.0, all_filter p xs h.1)
        | inr not ↦ subst (AllByRecursion P) (sym (left_out p a xs not)) (all_filter p xs h.1)
      ]

  all_first : (xs : List Numbered) (b : Numbered) (more : List Numbered) → xs ≡ b ∷ more → AllByRecursion P xs → P b
  all_first xs b more e h = (subst (AllByRecursion P) e h).0

  all_push : (xs : List Numbered) (a : Numbered) → AllByRecursion P xs → P a → AllByRecursion P (xs ++ a ∷ [])
  all_push [] a h is = (is, tt)
  all_push (b ∷ xs) a h is = (h.0, all_push xs a h.1 is)

  all_last : (xs : List Numbered) (a : Numbered) → AllByRecursion P (xs ++ a ∷ []) → P a
  all_last [] a h = h.0
  all_last (b ∷ xs) a h = all_last xs a h.1

  all_without : (s : ℕ) (xs : List Numbered) → AllByRecursion P xs → AllByRecursion P (without s xs)
  all_without s [] h = tt
  all_without s (a ∷ xs) h =
      elim (either (is_of_signal s a)) [
        | inl is ↦ subst (AllByRecursion P) (sym (cond-true (is_of_signal s a) xs (a ∷ without s xs) is)) h.1
        | inr not ↦ subst (AllByRecursion P) (sym (cond-false (is_of_signal s a) xs (a ∷ without s xs) not)) (h.0, all_without s xs h.1)
      ]

-- numbers that rise
pub rises_without : (s next : ℕ) (xs : List Numbered) → Rises xs next → Rises (without s xs) next
rises_without s next [] h = tt
rises_without s next (a ∷ xs) h =
    elim (either (is_of_signal s a)) [
      | inl is ↦ subst (λ (l : List Numbered). Rises l next) (sym (cond-true (is_of_signal s a) xs (a ∷ without s xs) is)) h.2
      | inr not ↦ subst (λ (l : List Numbered). Rises l next) (sym (cond-false (is_of_signal s a) xs (a ∷ without s xs) not))
          (h.0, all_without (λ (b : Numbered). a.number < b.number) s xs h.1, rises_without s next xs h.2)
    ]

pub rises_push : (next : ℕ) (xs : List Numbered) (a : Numbered) → a.number ≡ next → Rises xs next → Rises (xs ++ a ∷ []) (next + 1)
rises_push next [] a is h = (omega (arith, is), tt, tt)
rises_push next (b ∷ xs) a is h =
    let less = h.0 in
    (omega (arith, less), all_push (λ (c : Numbered). b.number < c.number) xs a h.1 (omega (arith, less, is)), rises_push next xs a is h.2)

rises_below : (next : ℕ) (xs : List Numbered) (a : Numbered) → Rises (xs ++ a ∷ []) next → AllByRecursion (λ (b : Numbered). b.number < a.number) xs
rises_below next [] a h = tt
rises_below next (b ∷ xs) a h = (all_last (λ (c : Numbered). b.number < c.number) xs a h.1, rises_below next xs a h.2)

-- what the queues have once one is taken out of the list, or one more has come
own_without : (s : ℕ) (xs : List Numbered) (a : Numbered) (rest : List Numbered) → filter (is_of_signal s) xs ≡ a ∷ rest → filter (is_of_signal s) (without s xs) ≡ rest
own_without s [] a rest h = absurd (none_is_one a rest h)
own_without s (x ∷ xs) a rest h =
    elim (either (is_of_signal s x)) [
      | inl is ↦ ap (filter (is_of_signal s)) (cond-true (is_of_signal s x) xs (x ∷ without s xs) is)
          ∙ (firsts_same x a (filter (is_of_signal s) xs) rest (sym (kept (is_of_signal s) x xs is) ∙ h)).1
      | inr not ↦ ap (filter (is_of_signal s)) (cond-false (is_of_signal s x) xs (x ∷ without s xs) not)
          ∙ left_out (is_of_signal s) x (without s xs) not
          ∙ own_without s xs a rest (sym (left_out (is_of_signal s) x xs not) ∙ h)
    ]

other_not : (s t : ℕ) (x : Numbered) → (t ≡ s → ⊥) → is_of_signal s x ≡ true → is_of_signal t x ≡ false
other_not s t x other is = ne_eqb x.item.signal.id.0 t (λ same. other (sym same ∙ eqb-true x.item.signal.id.0 s is))

other_without : (s t : ℕ) (xs : List Numbered) → (t ≡ s → ⊥) → filter (is_of_signal t) (without s xs) ≡ filter (is_of_signal t) xs
other_without s t [] other = refl
other_without s t (x ∷ xs) other =
    elim (either (is_of_signal s x)) [
      | inl is ↦ ap (filter (is_of_signal t)) (cond-true (is_of_signal s x) xs (x ∷ without s xs) is)
          ∙ sym (left_out (is_of_signal t) x xs (other_not s t x other is))
      | inr not ↦ ap (filter (is_of_signal t)) (cond-false (is_of_signal s x) xs (x ∷ without s xs) not)
          ∙ ap (λ (l : List Numbered). cond (is_of_signal t x) (x ∷ l) l) (other_without s t xs other)
    ]

pub by_signal_without : (queues : List (List Numbered)) (xs : List Numbered) (s : ℕ) (a : Numbered) (rest : List Numbered)
    → AreBySignal queues xs → get_or queues s [] ≡ a ∷ rest → s < length queues → AreBySignal (slice_set queues s rest) (without s xs)
by_signal_without queues xs s a rest are here within t =
    elim (cases_eq t s) [
      | inl same ↦ subst (λ (n : ℕ). get_or (slice_set queues s rest) n [] ≡ filter (is_of_signal n) (without s xs)) (sym same)
          (get_or-set_same queues s rest [] within ∙ sym (own_without s xs a rest (sym (are s) ∙ here)))
      | inr other ↦ get_or-set_other queues s t rest [] other ∙ are t ∙ sym (other_without s t xs other)
    ]

pub by_signal_push : (queues : List (List Numbered)) (xs : List Numbered) (a : Numbered)
    → AreBySignal queues xs → a.item.signal.id.0 < length queues
    → AreBySignal (slice_set queues a.item.signal.id.0 (get_or queues a.item.signal.id.0 [] ++ a ∷ [])) (xs ++ a ∷ [])
by_signal_push queues xs a are within t =
    let s = a.item.signal.id.0 in
    elim (cases_eq t s) [
      | inl same ↦ subst (λ (n : ℕ). get_or (slice_set queues s (get_or queues s [] ++ a ∷ [])) n [] ≡ filter (is_of_signal n) (xs ++ a ∷ [])) (sym same)
          (get_or-set_same queues s (get_or queues s [] ++ a ∷ []) [] within
          ∙ ap (λ (l : List Numbered). l ++ a ∷ []) (are s)
          ∙ sym (pushed (is_of_signal s) xs a ∙ ap (λ (l : List Numbered). filter (is_of_signal s) xs ++ l) (kept (is_of_signal s) a [] (eq-eqb s s refl))))
      | inr other ↦ get_or-set_other queues s t (get_or queues s [] ++ a ∷ []) [] other ∙ are t
          ∙ sym (pushed (is_of_signal t) xs a
          ∙ ap (λ (l : List Numbered). filter (is_of_signal t) xs ++ l) (left_out (is_of_signal t) a [] (other_not s t a other (eq-eqb s s refl)))
          ∙ append-nil (filter (is_of_signal t) xs))
    ]

module _ (saved : SignalId → Bool) where
  -- two of one signal are both saved or not
  same_signal : (t : ℕ) (x b : Numbered) → is_of_signal t x ≡ true → is_of_signal t b ≡ true → saved x.item.signal.id ≡ saved b.item.signal.id
  same_signal t x b is so =
      ap (λ (n : ℕ). saved (record { 0 = n })) (eqb-true x.item.signal.id.0 t is ∙ sym (eqb-true b.item.signal.id.0 t so))

  own : (x : Numbered) (xs : List Numbered) → filter (is_of_signal x.item.signal.id.0) (x ∷ xs) ≡ x ∷ filter (is_of_signal x.item.signal.id.0) xs
  own x xs = kept (is_of_signal x.item.signal.id.0) x xs (eq-eqb x.item.signal.id.0 x.item.signal.id.0 refl)

  -- the first of each signal is saved, and so is each
  all_saved : (xs : List Numbered) → ((t : ℕ) (b : Numbered) (more : List Numbered) → filter (is_of_signal t) xs ≡ b ∷ more → saved b.item.signal.id ≡ true) → AllSaved saved (map item_of xs)
  all_saved [] h = tt
  all_saved (x ∷ xs) h =
      let here = h x.item.signal.id.0 x (filter (is_of_signal x.item.signal.id.0) xs) (own x xs) in (
        here,
        all_saved xs (λ t b more e.
            elim (either (is_of_signal t x)) [
              | inl is ↦ sym (same_signal t x b is (first_passes (is_of_signal t) xs b more e)) ∙ here
              | inr not ↦ h t b more (left_out (is_of_signal t) x xs not ∙ e)
            ]),
      )

  HasLeast : List Numbered → Numbered → Type 0
  HasLeast xs a = (t : ℕ) (b : Numbered) (more : List Numbered) → filter (is_of_signal t) xs ≡ b ∷ more → saved b.item.signal.id ≡ false → a.number ≤ b.number

  -- one that is saved stands before
  least_later : (x : Numbered) (xs : List Numbered) (a : Numbered) → saved x.item.signal.id ≡ true → HasLeast (x ∷ xs) a → HasLeast xs a
  unfolding HasLeast
  least_later x xs a is least t b more e not =
      elim (either (is_of_signal t x)) [
        | inl same ↦ absurd (true≢false (sym is ∙ same_signal t x b same (first_passes (is_of_signal t) xs b more e) ∙ not))
        | inr other ↦ least t b more (left_out (is_of_signal t) x xs other ∙ e) not
      ]

  -- the one with the least number among the first of each signal that are not saved is the next
  takes_least : (s next : ℕ) (xs : List Numbered) (a : Numbered) (rest : List Numbered) → Rises xs next → filter (is_of_signal s) xs ≡ a ∷ rest → saved a.item.signal.id ≡ false → HasLeast xs a
      → TakesOut saved (map item_of xs) a.item (map item_of (without s xs))
  unfolding HasLeast
  takes_least s next [] a rest rises here not least = absurd (none_is_one a rest here)
  takes_least s next (x ∷ xs) a rest rises here not least =
      elim (either (saved x.item.signal.id)) [
        | inl is ↦ elim (either (is_of_signal s x)) [
          | inl same ↦ absurd (true≢false (sym is ∙ same_signal s x a same (first_passes (is_of_signal s) (x ∷ xs) a rest here) ∙ not))
          | inr other ↦ subst (λ (l : List Numbered). TakesOut saved (map item_of (x ∷ xs)) a.item (map item_of l)) (sym (cond-false (is_of_signal s x) xs (x ∷ without s xs) other))
              (cons_taken saved x.item (map item_of xs) a.item (map item_of (without s xs)) is
              (takes_least s next xs a rest rises.2 (sym (left_out (is_of_signal s) x xs other) ∙ here) not (least_later x xs a is least)))
        ]
        | inr open_ ↦ elim (either (is_of_signal s x)) [
          | inl same ↦
              let first : x ≡ a = (firsts_same x a (filter (is_of_signal s) xs) rest (sym (kept (is_of_signal s) x xs same) ∙ here)).0 in
              subst (λ (l : List Numbered). TakesOut saved (map item_of (x ∷ xs)) a.item (map item_of l)) (sym (cond-true (is_of_signal s x) xs (x ∷ without s xs) same))
              (record { before = []; behind = map item_of xs; items_are = ap (λ (y : Numbered). y.item ∷ map item_of xs) first; rest_is = refl; all_saved = tt; not_saved = not })
          | inr other ↦
              let before : a.number ≤ x.number = least x.item.signal.id.0 x (filter (is_of_signal x.item.signal.id.0) xs) (own x xs) open_ in
              let after : x.number < a.number = all_first (λ (b : Numbered). x.number < b.number) (filter (is_of_signal s) xs) a rest (sym (left_out (is_of_signal s) x xs other) ∙ here) (all_filter (λ (b : Numbered). x.number < b.number) (is_of_signal s) xs rises.1) in
              absurd (omega (arith, before, after))
        ]
      ]

  -- so it is of the queue that was found, and where none was found all are saved
  pub found_taken : (queues : List (List Numbered)) (xs : List Numbered) (next : ℕ) (f : Found) → AreBySignal queues xs → Rises xs next → (k : IsFirst saved queues (length queues) f)
      → TakesOut saved (map item_of xs) k.first.item (map item_of (without f.place xs))
  unfolding HasLeast
  found_taken queues xs next f are rises k =
      takes_least f.place next xs k.first k.rest rises (sym (are f.place) ∙ k.queue) k.not_saved
      (λ t b more e not.
      let queue : get_or queues t [] ≡ b ∷ more = are t ∙ e in
      let least = k.least t b more (within_queues queues t b more queue) queue not in
      let number = k.number in
      omega (arith, least, number))

  pub none_found : (queues : List (List Numbered)) (xs : List Numbered) → AreBySignal queues xs → IsFirstOf saved queues (length queues) None → next_in saved (map item_of xs) ≡ None
  none_found queues xs are h =
      all_passed saved (map item_of xs) (all_saved xs (λ t b more e.
      let queue : get_or queues t [] ≡ b ∷ more = are t ∙ e in
      h t b more (within_queues queues t b more queue) queue))

  -- one more queue is looked at
  pub none_more : (queues : List (List Numbered)) (n : ℕ) → IsFirstOf saved queues n None → ((b : Numbered) (more : List Numbered) → get_or queues n [] ≡ b ∷ more → saved b.item.signal.id ≡ true) → IsFirstOf saved queues (n + 1) None
  none_more queues n h here t b more within queue =
      elim (next_or_before n t within) [
        | inl same ↦ here b more (subst (λ (k : ℕ). get_or queues k [] ≡ b ∷ more) same queue)
        | inr less ↦ h t b more less queue
      ]

  pub first_stays : (queues : List (List Numbered)) (n : ℕ) (f : Found) → IsFirst saved queues n f → ((b : Numbered) (more : List Numbered) → get_or queues n [] ≡ b ∷ more → saved b.item.signal.id ≡ false → f.number ≤ b.number) → IsFirst saved queues (n + 1) f
  first_stays queues n f k here = record {
    first = k.first;
    rest = k.rest;
    within = (let less = k.within in omega (arith, less));
    queue = k.queue;
    number = k.number;
    not_saved = k.not_saved;
    least = λ t b more within queue not.
        elim (next_or_before n t within) [
          | inl same ↦ here b more (subst (λ (k : ℕ). get_or queues k [] ≡ b ∷ more) same queue) not
          | inr less ↦ k.least t b more less queue not
        ];
  }

  pub found_same : (queues : List (List Numbered)) (n : ℕ) (o : Option Found) → IsFirstOf saved queues n o → ((b : Numbered) (more : List Numbered) → get_or queues n [] ≡ b ∷ more → saved b.item.signal.id ≡ true) → IsFirstOf saved queues (n + 1) o
  found_same queues n None h here = none_more queues n h here
  found_same queues n (Some f) h here = first_stays queues n f h (λ b more queue not. absurd (true≢false (sym (here b more queue) ∙ not)))

  pub found_new : (queues : List (List Numbered)) (n : ℕ) (o : Option Found) (a : Numbered) (rest : List Numbered) → IsFirstOf saved queues n o → get_or queues n [] ≡ a ∷ rest → saved a.item.signal.id ≡ false
      → ((f : Found) → o ≡ Some f → a.number ≤ f.number) → IsFirst saved queues (n + 1) (record { place = n; number = a.number })
  found_new queues n o a rest h here not less = record {
    first = a;
    rest = rest;
    within = omega arith;
    queue = here;
    number = refl;
    not_saved = not;
    least = λ t b more within queue open_.
        elim (next_or_before n t within) [
          | inl same ↦
              let equal : a ≡ b = (firsts_same a b rest more (sym here ∙ subst (λ (k : ℕ). get_or queues k [] ≡ b ∷ more) same queue)).0 in
              let numbers = ap (λ (x : Numbered). x.number) equal in
              omega (arith, numbers)
          | inr before ↦ least_of queues n o a h less t b more before queue open_
        ];
  }
    where
      least_of : (queues : List (List Numbered)) (n : ℕ) (o : Option Found) (a : Numbered) → IsFirstOf saved queues n o → ((f : Found) → o ≡ Some f → a.number ≤ f.number)
          → (t : ℕ) (b : Numbered) (more : List Numbered) → t < n → get_or queues t [] ≡ b ∷ more → saved b.item.signal.id ≡ false → a.number ≤ b.number
      least_of queues n None a h less t b more before queue open_ = absurd (true≢false (sym (h t b more before queue) ∙ open_))
      least_of queues n (Some f) a h less t b more before queue open_ =
          let one = less f refl in
          let two = h.least t b more before queue open_ in
          omega (arith, one, two)

-- the same of those that stand last
module _ (queues : List (List Numbered)) (n : ℕ) where
  pub last_stays : (f : Found) → IsLast queues n f → ((more : List Numbered) (b : Numbered) → get_or queues n [] ≡ more ++ b ∷ [] → b.number ≤ f.number) → IsLast queues (n + 1) f
  last_stays f k here = record {
    front = k.front;
    last = k.last;
    within = (let less = k.within in omega (arith, less));
    queue = k.queue;
    number = k.number;
    greatest = λ t more b within queue.
        elim (next_or_before n t within) [
          | inl same ↦ here more b (subst (λ (k : ℕ). get_or queues k [] ≡ more ++ b ∷ []) same queue)
          | inr less ↦ k.greatest t more b less queue
        ];
  }

  pub last_same : (o : Option Found) → IsLastOf queues n o → get_or queues n [] ≡ [] → IsLastOf queues (n + 1) o
  last_same None h here = λ t within.
      elim (next_or_before n t within) [
        | inl same ↦ subst (λ (k : ℕ). get_or queues k [] ≡ []) (sym same) here
        | inr less ↦ h t less
      ]
  last_same (Some f) h here = last_stays f h (λ more b queue. absurd (no_last more b (sym here ∙ queue)))

  greatest_of : (o : Option Found) (a : Numbered) → IsLastOf queues n o → ((f : Found) → o ≡ Some f → f.number ≤ a.number)
      → (t : ℕ) (more : List Numbered) (b : Numbered) → t < n → get_or queues t [] ≡ more ++ b ∷ [] → b.number ≤ a.number
  greatest_of None a h less t more b before queue = absurd (no_last more b (sym (h t before) ∙ queue))
  greatest_of (Some f) a h less t more b before queue =
      let one = less f refl in
      let two = h.greatest t more b before queue in
      omega (arith, one, two)

  pub last_new : (o : Option Found) (front : List Numbered) (a : Numbered) → IsLastOf queues n o → get_or queues n [] ≡ front ++ a ∷ [] → ((f : Found) → o ≡ Some f → f.number ≤ a.number)
      → IsLast queues (n + 1) (record { place = n; number = a.number })
  last_new o front a h here less = record {
    front = front;
    last = a;
    within = omega arith;
    queue = here;
    number = refl;
    greatest = λ t more b within queue.
        elim (next_or_before n t within) [
          | inl same ↦
              let equal : a ≡ b = (same_from_push front more a b (sym here ∙ subst (λ (k : ℕ). get_or queues k [] ≡ more ++ b ∷ []) same queue)).1 in
              let numbers = ap (λ (x : Numbered). x.number) equal in
              omega (arith, numbers)
          | inr before ↦ greatest_of o a h less t more b before queue
        ];
  }

module _ (queues : List (List Numbered)) (xs : List Numbered) (are : AreBySignal queues xs) where
  not_past : (t : ℕ) (more : List Numbered) (b : Numbered) → get_or queues t [] ≡ more ++ b ∷ [] → t < length queues
  not_past t [] b h = within_queues queues t b [] h
  not_past t (a ∷ more) b h = within_queues queues t a (more ++ b ∷ []) h

  -- where each queue is empty nothing is left
  pub none_last : IsLastOf queues (length queues) None → 0 < length (map item_of xs) → ⊥
  none_last h some = left xs are some
    where
      left : (bs : List Numbered) → AreBySignal queues bs → 0 < length (map item_of bs) → ⊥
      left [] of more = omega (arith, more)
      left (b ∷ bs) of more =
          let t = b.item.signal.id.0 in
          let here : get_or queues t [] ≡ b ∷ filter (is_of_signal t) bs = of t ∙ kept (is_of_signal t) b bs (eq-eqb t t refl) in
          none_is_one b (filter (is_of_signal t) bs) (sym (h t (within_queues queues t b (filter (is_of_signal t) bs) here)) ∙ here)

  -- the last of all stands last in its queue, and has the greatest number
  pub last_of_all : (next : ℕ) (f : Found) (front : List Numbered) (z : Numbered) → Rises xs next → (k : IsLast queues (length queues) f) → xs ≡ front ++ z ∷ [] → k.last ≡ z
  last_of_all next f front z rises k is =
      let t = z.item.signal.id.0 in
      let p = is_of_signal f.place in
      let own : get_or queues t [] ≡ filter (is_of_signal t) front ++ z ∷ [] =
      are t ∙ ap (filter (is_of_signal t)) is ∙ pushed (is_of_signal t) front z
      ∙ ap (λ (l : List Numbered). filter (is_of_signal t) front ++ l) (kept (is_of_signal t) z [] (eq-eqb t t refl)) in
      let less : z.number ≤ f.number = k.greatest t (filter (is_of_signal t) front) z (not_past t (filter (is_of_signal t) front) z own) own in
      let found : k.front ++ k.last ∷ [] ≡ filter p front ++ filter p (z ∷ []) = sym k.queue ∙ are f.place ∙ ap (filter p) is ∙ pushed p front z in
      elim (either (p z)) [
        | inl same ↦ (same_from_push k.front (filter p front) k.last z (found ∙ ap (λ (l : List Numbered). filter p front ++ l) (kept p z [] same))).1
        | inr other ↦
            let among : filter p front ≡ k.front ++ k.last ∷ [] = sym (found ∙ ap (λ (l : List Numbered). filter p front ++ l) (left_out p z [] other) ∙ append-nil (filter p front)) in
            let below : AllByRecursion (λ (b : Numbered). b.number < z.number) (filter p front) =
            all_filter (λ (b : Numbered). b.number < z.number) p front (rises_below next front z (subst (λ (l : List Numbered). Rises l next) is rises)) in
            let last : k.last.number < z.number = all_last (λ (b : Numbered). b.number < z.number) k.front k.last (subst (AllByRecursion (λ (b : Numbered). b.number < z.number)) among below) in
            let number = k.number in
            absurd (omega (arith, less, last, number))
      ]

  pub last_item : (next : ℕ) (f : Found) → Rises xs next → (k : IsLast queues (length queues) f) → (before : List Item) (item : Item) → map item_of xs ≡ before ++ item ∷ [] → k.last.item ≡ item
  last_item next f rises k before item is = by xs refl
    where
      no_item : (is : List Item) (i : Item) → [] ≡ is ++ i ∷ [] → ⊥
      no_item [] i h = (let z : 0 ≡ length (i ∷ []) = ap length h in omega (arith, z))
      no_item (j ∷ is) i h = (let z : 0 ≡ length (j ∷ is ++ i ∷ []) = ap length h in omega (arith, z))

      by : (bs : List Numbered) → xs ≡ bs → k.last.item ≡ item
      by [] same = absurd (no_item before item (sym (ap (map item_of) same) ∙ is))
      by (b ∷ bs) same =
          let (front, z, pushed_) = as_pushed b bs in
          let found : k.last ≡ z = last_of_all next f front z rises k (same ∙ pushed_) in
          let items : map item_of front ++ z.item ∷ [] ≡ before ++ item ∷ [] = sym (map_push item_of front z) ∙ sym (ap (map item_of) (same ∙ pushed_)) ∙ is in
          ap (λ (x : Numbered). x.item) found ∙ (same_from_push (map item_of front) before z.item item items).1

-- the same over a list of queues as it is held
module _ {Q : Type 0} (f : Q → List Numbered) (qs : List Q) (xs : List Numbered) (next : ℕ) (are : AreBySignal (map f qs) xs) (rises : Rises xs next) where
  within_list : (place : ℕ) → place < length (map f qs) → place < length qs
  within_list place h = (let long = length-map qs f in omega (arith, long, h))

  at_place : (place : ℕ) (old : Q) → place < length qs → old ≡ get_or qs place old → f old ≡ get_or (map f qs) place []
  at_place place old within there = ap f there ∙ sym (get_or-map f qs place old [] within)

  pub pushed_queue : (place : ℕ) (a : Numbered) (old new : Q) → place < length qs → a.item.signal.id.0 ≡ place → old ≡ get_or qs place old → f new ≡ f old ++ a ∷ []
      → AreBySignal (map f (slice_set qs place new)) (xs ++ a ∷ [])
  pushed_queue place a old new within is there more =
      let long = length-map qs f in
      let in_queues : a.item.signal.id.0 < length (map f qs) = omega (arith, long, within, is) in
      let queue : get_or (map f qs) place [] ++ a ∷ [] ≡ f new = ap (λ (l : List Numbered). l ++ a ∷ []) (sym (at_place place old within there)) ∙ sym more in
      let at_own = by_signal_push (map f qs) xs a are in_queues in
      let at : AreBySignal (slice_set (map f qs) place (get_or (map f qs) place [] ++ a ∷ [])) (xs ++ a ∷ []) =
      subst (λ (n : ℕ). AreBySignal (slice_set (map f qs) n (get_or (map f qs) n [] ++ a ∷ [])) (xs ++ a ∷ [])) is at_own in
      subst (λ (l : List (List Numbered)). AreBySignal l (xs ++ a ∷ [])) (ap (slice_set (map f qs) place) queue ∙ sym (map-set f qs place new)) at

  pub left_queue : (place : ℕ) (a : Numbered) (old new : Q) → place < length qs → old ≡ get_or qs place old → f old ≡ a ∷ f new
      → AreBySignal (map f (slice_set qs place new)) (without place xs)
  left_queue place a old new within there less =
      let long = length-map qs f in
      let in_queues : place < length (map f qs) = omega (arith, long, within) in
      subst (λ (l : List (List Numbered)). AreBySignal l (without place xs)) (sym (map-set f qs place new))
      (by_signal_without (map f qs) xs place a (f new) are (sym (at_place place old within there) ∙ less) in_queues)

  module _ (slice : List Q) (same : slice ≡ qs) where
    pub slice_last : (o : Option Found) → IsLastOf (map f slice) (length slice) o → IsLastOf (map f qs) (length (map f qs)) o
    slice_last o h =
        subst (λ (n : ℕ). IsLastOf (map f qs) n o) (sym (length-map qs f)) (subst (λ (l : List Q). IsLastOf (map f l) (length l) o) same h)

    pub none_latest : IsLastOf (map f slice) (length slice) None → 0 < length (map item_of xs) → ⊥
    none_latest h some = none_last (map f qs) xs are (slice_last None h) some

    pub latest : (found : Found) (old : Q) (front : List Numbered) (a : Numbered) → IsLastOf (map f slice) (length slice) (Some found) → old ≡ get_or qs found.place old → f old ≡ front ++ a ∷ []
        → (before : List Item) (item : Item) → map item_of xs ≡ before ++ item ∷ [] → a.item ≡ item
    latest found old front a h there back before item is =
        let k : IsLast (map f qs) (length (map f qs)) found = slice_last (Some found) h in
        let here = at_place found.place old (within_list found.place k.within) there in
        let equal : a ≡ k.last = (same_from_push front k.front a k.last (sym back ∙ here ∙ k.queue)).1 in
        ap item_of equal ∙ last_item (map f qs) xs are next found rises k before item is

    module _ (saved : SignalId → Bool) where
      slice_first : (o : Option Found) → IsFirstOf saved (map f slice) (length slice) o → IsFirstOf saved (map f qs) (length (map f qs)) o
      slice_first o h =
          subst (λ (n : ℕ). IsFirstOf saved (map f qs) n o) (sym (length-map qs f)) (subst (λ (l : List Q). IsFirstOf saved (map f l) (length l) o) same h)

      pub none_first : IsFirstOf saved (map f slice) (length slice) None → next_in saved (map item_of xs) ≡ None
      none_first h = none_found saved (map f qs) xs are (slice_first None h)

      pub found_within : (found : Found) → IsFirstOf saved (map f slice) (length slice) (Some found) → found.place < length qs
      found_within found h =
          let k : IsFirst saved (map f qs) (length (map f qs)) found = slice_first (Some found) h in
          within_list found.place k.within

      pub found_first : (found : Found) (old : Q) (a : Numbered) (rest : List Numbered) → IsFirstOf saved (map f slice) (length slice) (Some found) → old ≡ get_or qs found.place old → f old ≡ a ∷ rest
          → TakesOut saved (map item_of xs) a.item (map item_of (without found.place xs))
      found_first found old a rest h there front =
          let k : IsFirst saved (map f qs) (length (map f qs)) found = slice_first (Some found) h in
          let here = at_place found.place old (within_list found.place k.within) there in
          let equal : k.first ≡ a = (firsts_same k.first a k.rest rest (sym k.queue ∙ sym here ∙ front)).0 in
          subst (λ (x : Numbered). TakesOut saved (map item_of xs) x.item (map item_of (without found.place xs))) equal (found_taken saved (map f qs) xs next found are rises k)
