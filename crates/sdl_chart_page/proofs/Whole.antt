-- A page on which no list can go on has all events, where the lists are orderly.
use Rattle.std.proofs.Common.{◌≡◌, ℕ, zero, suc, ◌+◌, ◌-◌, ◌<◌, ◌≤◌, Bool, cond, eqb, List, [], ◌∷◌, map, length, set, get_or, slice_get, Some, option_and_then, refl, ap, sym, ◌∙◌, subst, inl, inr, arith, add-zero, zero-add}
use Rattle.std.specs.Prelude.{filter, IsSome}
use Rattle.std.specs.List.{range_with_len}
use Rattle.std.proofs.lemmas.Bool.{cases_eq, cases_lt, eq-eqb, ne_eqb}
use Rattle.std.proofs.lemmas.Option.{same_Some, none-some, slice_get_within, slice_get-get_or, option_and_then_some}
use Rattle.sdl_signal.specs.declared.values.Item.{Item}
use Rattle.sdl_chart_page.specs.declared.page.Row.{Row}
use Rattle.sdl_chart_page.specs.declared.page.Standing.{Standing}
use Rattle.sdl_chart_page.specs.Entries.{Entry, entry_at}
use Rattle.sdl_chart_page.specs.Pages.{noted_at, events_of, IsUnderWay, HasMore, AreStuck, AreOrderly}
use Rattle.sdl_chart_page.proofs.Going.{nothing_arrives, one_item}

-- how many events of the lists are not on the page
pub ahead : List (List Entry) → List ℕ → ℕ
ahead [] next = 0
ahead (es ∷ lists) [] = 0
ahead (es ∷ lists) (n ∷ next) = (length es - n) + ahead lists next

-- an event that is put on the page is ahead no more
pub ahead_less : (lists : List (List Entry)) (next : List ℕ) (l : ℕ) (e : Entry) → entry_at lists l (get_or next l 0) ≡ Some e → l < length next
    → ahead lists (set next l (get_or next l 0 + 1)) < ahead lists next
unfolding ahead
ahead_less [] next l e at less = absurd (none-some e at)
ahead_less (es ∷ lists) [] l e at less = absurd (omega (arith, less))
ahead_less (es ∷ lists) (n ∷ next) zero e at less =
    let inside : n < length es = slice_get_within es n e at in
    let was : ahead (es ∷ lists) (n ∷ next) ≡ (length es - n) + ahead lists next = refl in
    let now : ahead (es ∷ lists) (set (n ∷ next) 0 (get_or (n ∷ next) 0 0 + 1)) ≡ (length es - (n + 1)) + ahead lists next = refl in
    omega (arith, inside, was, now)
ahead_less (es ∷ lists) (n ∷ next) (suc l) e at less =
    let rest = ahead_less lists next l e at (omega (arith, less)) in
    let was : ahead (es ∷ lists) (n ∷ next) ≡ (length es - n) + ahead lists next = refl in
    let now : ahead (es ∷ lists) (set (n ∷ next) (suc l) (get_or (n ∷ next) (suc l) 0 + 1)) ≡ (length es - n) + ahead lists (set next l (get_or next l 0 + 1)) = refl in
    omega (arith, rest, was, now)

-- the row of an event of a list
record HasRow (l n : ℕ) (rows : List Row) : Type 0 where
  place : ℕ
  row : Row
  stands : slice_get rows place ≡ Some row
  of : row.list ≡ l
  is : row.number ≡ n

later_row : (l n : ℕ) (q : Row) (rows : List Row) → HasRow l n rows → HasRow l n (q ∷ rows)
later_row l n q rows h = record { place = suc h.place; row = h.row; stands = h.stands; of = h.of; is = h.is }

first_or_later : (l n m : ℕ) (q : Row) (rows : List Row) → q.list ≡ l → ((k : ℕ) → slice_get (events_of l rows) k ≡ Some n → HasRow l n rows)
    → slice_get (q.number ∷ events_of l rows) m ≡ Some n → HasRow l n (q ∷ rows)
first_or_later l n zero q rows e later h = record { place = 0; row = q; stands = refl; of = e; is = same_Some q.number n h }
first_or_later l n (suc m) q rows e later h = later_row l n q rows (later m h)

row_of : (l n : ℕ) (rows : List Row) (m : ℕ) → slice_get (events_of l rows) m ≡ Some n → HasRow l n rows
row_of l n [] m h = absurd (none-some n h)
row_of l n (q ∷ rows) m h =
    let own = λ (r : Row). eqb r.list l in
    let all = λ (b : Bool). map (λ (r : Row). r.number) (cond b (q ∷ filter own rows) (filter own rows)) in
    elim (cases_eq q.list l) [
      | inl e ↦ first_or_later l n m q rows e (λ k found. row_of l n rows k found) (sym (ap (λ (ns : List ℕ). slice_get ns m) (ap all (eq-eqb q.list l e))) ∙ h)
      | inr d ↦ later_row l n q rows (row_of l n rows m (sym (ap (λ (ns : List ℕ). slice_get ns m) (ap all (ne_eqb q.list l d))) ∙ h))
    ]

get_range : (a n m : ℕ) → m < n → slice_get (range_with_len a n) m ≡ Some (a + m)
get_range a zero m h = absurd (omega (arith, h))
get_range a (suc n) zero h = ap (λ (k : ℕ). Some k) (sym (add-zero a))
get_range a (suc n) (suc m) h =
    let e : (a + 1) + m ≡ a + suc m = omega arith in
    get_range (a + 1) n m (omega (arith, h)) ∙ ap (λ (k : ℕ). Some k) e

-- an event before the next one of its list is on the page
row_before : (l n : ℕ) (rows : List Row) (next : ℕ) → events_of l rows ≡ range_with_len 0 next → n < next → HasRow l n rows
row_before l n rows next in_order less =
    row_of l n rows n (ap (λ (ns : List ℕ). slice_get ns n) in_order ∙ (get_range 0 next n less ∙ ap (λ (k : ℕ). Some k) (zero-add n)))

-- a list that has an event has those before it
event_before : (lists : List (List Entry)) (l a n : ℕ) (e : Entry) → entry_at lists l n ≡ Some e → a ≤ n → (f : Entry) × (entry_at lists l a ≡ Some f)
event_before lists l a n e at few =
    option_and_then_some (λ (es : List Entry). slice_get es n) (slice_get lists l) e at
    (λ es here got.
    let inside : n < length es = slice_get_within es n e got in
    (get_or es a e, ap (option_and_then (λ (xs : List Entry). slice_get xs a)) here ∙ slice_get-get_or es a e (omega (arith, inside, few))))

-- a list that can't go on waits for an item
two_items : (j k i : Item) (more : List Item) → j ∷ k ∷ more ≡ i ∷ [] → ⊥
two_items j k i more h = cc

waits_for : (arrived : List Item) (places : List (List Standing)) → (((i : Item) → arrived ≡ i ∷ [] → IsSome (noted_at places i.origin)) → ⊥) → (j : Item) × (arrived ≡ j ∷ [])
waits_for [] places never = absurd (never (λ i h. absurd (nothing_arrives i h)))
waits_for (j ∷ []) places never = (j, refl)
waits_for (j ∷ k ∷ more) places never = absurd (never (λ i h. absurd (two_items j k i more h)))

module _ (lists : List (List Entry)) (rows : List Row) (next : List ℕ) (places : List (List Standing)) (way : IsUnderWay lists rows next places) (stuck : AreStuck lists next places) (orderly : AreOrderly lists) where
  -- No list waits for an item of a stamp below this. It would be output in a list that waits for an item of a lesser stamp.
  none_waits : (bound l : ℕ) (e : Entry) (i : Item) → entry_at lists l (get_or next l 0) ≡ Some e → e.arrived ≡ i ∷ [] → i.stamp < bound → ⊥
  none_waits zero l e i at is less = omega (arith, less)
  none_waits (suc bound) l e i at is less =
      let sent = orderly.output l (get_or next l 0) e i at is in
      elim (cases_lt sent.number (get_or next sent.list 0)) [
        | inl below ↦
            let found = row_before sent.list sent.number rows (get_or next sent.list 0) (way.in_order sent.list) below in
            let shown : entry_at lists found.row.list found.row.number ≡ Some sent.entry =
            ap (λ (x : ℕ × ℕ). entry_at lists x.0 x.1) (λ i. (found.of i, found.is i)) ∙ sent.at in
            let noted = way.noted found.place sent.index found.row sent.entry i found.stands shown sent.sends in
            stuck l e at (λ j arrives. subst (λ (x : Item). IsSome (noted_at places x.origin)) (one_item i j (sym is ∙ arrives)) noted)
        | inr from ↦
            let before = event_before lists sent.list (get_or next sent.list 0) sent.number sent.entry sent.at from in
            let waits = waits_for before.0.arrived places (stuck sent.list before.0 before.1) in
            let less_stamp = orderly.later sent.list (get_or next sent.list 0) sent.number sent.index before.0 sent.entry waits.0 i before.1 waits.1 from sent.at sent.sends in
            none_waits bound sent.list before.0 waits.0 before.1 waits.1 (omega (arith, less, less_stamp))
      ]

  pub none_more : HasMore lists next → ⊥
  none_more more =
      let waits = waits_for more.1.arrived places (stuck more.0 more.1 more.2) in
      none_waits (waits.0.stamp + 1) more.0 more.1 waits.0 more.2 waits.1 (omega arith)
