-- A page that goes on with one event more.
use Rattle.std.proofs.Common.{◌≡◌, ℕ, zero, suc, ◌+◌, ◌<◌, ◌≤◌, Bool, cond, eqb, List, [], ◌∷◌, ◌++◌, map, length, set, get_or, replicate, slice_get, Some, option_and_then, refl, ap, ap₂, sym, ◌∙◌, subst, inl, inr, arith, add-one, add-zero, zero-add}
use Rattle.std.specs.Prelude.{filter}
use Rattle.std.specs.List.{range_with_len}
use Rattle.std.proofs.lemmas.Bool.{cases_eq, eq-eqb, ne_eqb, cond_both}
use Rattle.std.proofs.lemmas.List.{append-nil, map-append, length-map, length-set, get_or-set_same, get_or-set_other}
use Rattle.std.proofs.lemmas.List.FromFn.{length-range_with_len}
use Rattle.std.proofs.lemmas.List.Elements.{filter-append}
use Rattle.std.proofs.lemmas.Option.{same_Some, none-some, slice_get_within, option_and_then_some}
use Rattle.sdl_signal.specs.declared.values.Item.{Item}
use Rattle.sdl_signal.specs.declared.values.Origin.{Origin}
use Rattle.sdl_chart_page.specs.declared.page.Row.{Row}
use Rattle.sdl_chart_page.specs.declared.page.Spot.{Spot}
use Rattle.sdl_chart_page.specs.declared.page.Standing.{Standing}
use Rattle.sdl_chart_page.specs.declared.lists.Seen.{Seen}
use Rattle.sdl_chart_page.specs.declared.lists.Seen.TheVariants as seen
use Rattle.sdl_chart_page.specs.Entries.{Entry, entry_at, entry_seen, IsPast}
use Rattle.sdl_chart_page.specs.Pages.{noted_at, events_of, AreEvents, AreOutputAbove, AreNotedIn, IsSpot, IsPageOf, IsUnderWay, HasAll, HasCome, AreWhole, StayNoted, IsSameNoted, IsDue, AreNoted}
use Rattle.sdl_chart_page.proofs.OneMore.{get_kept, get_last, get_cases, some_of}
use Rattle.sdl_chart_page.proofs.Noting.{some_stays}

-- numbers from 0 on, with one more
range_suc : (a n : ℕ) → range_with_len a (suc n) ≡ range_with_len a n ++ (a + n) ∷ []
range_suc a zero = ap (λ (m : ℕ). m ∷ []) (sym (add-zero a))
range_suc a (suc n) =
    let e : (a + 1) + n ≡ a + suc n = omega arith in
    ap (λ (xs : List ℕ). a ∷ xs) (range_suc (a + 1) n ∙ ap (λ (m : ℕ). range_with_len (a + 1) n ++ m ∷ []) e)

range_more : (n : ℕ) → range_with_len 0 (n + 1) ≡ range_with_len 0 n ++ n ∷ []
range_more n = ap (range_with_len 0) (add-one n) ∙ (range_suc 0 n ∙ ap (λ (m : ℕ). range_with_len 0 n ++ m ∷ []) (zero-add n))

-- the events of a list, with one row more
events_more : (l : ℕ) (rows : List Row) (r : Row) → events_of l (rows ++ r ∷ []) ≡ events_of l rows ++ events_of l (r ∷ [])
events_more l rows r =
    let own = λ (q : Row). eqb q.list l in
    ap (map (λ (q : Row). q.number)) (filter-append own rows (r ∷ [])) ∙ map-append (λ (q : Row). q.number) (filter own rows) (filter own (r ∷ []))

events_own : (l : ℕ) (r : Row) → r.list ≡ l → events_of l (r ∷ []) ≡ r.number ∷ []
events_own l r e = ap (λ (b : Bool). map (λ (q : Row). q.number) (cond b (r ∷ []) [])) (eq-eqb r.list l e)

events_other : (l : ℕ) (r : Row) → (r.list ≡ l → ⊥) → events_of l (r ∷ []) ≡ []
events_other l r n = ap (λ (b : Bool). map (λ (q : Row). q.number) (cond b (r ∷ []) [])) (ne_eqb r.list l n)

in_order_more : (rows : List Row) (next : List ℕ) (r : Row) → r.list < length next → r.number ≡ get_or next r.list 0
    → ((l : ℕ) → events_of l rows ≡ range_with_len 0 (get_or next l 0))
    → (l : ℕ) → events_of l (rows ++ r ∷ []) ≡ range_with_len 0 (get_or (set next r.list (r.number + 1)) l 0)
in_order_more rows next r less is before l =
    let after : List ℕ = set next r.list (r.number + 1) in
    let own : events_of r.list rows ++ events_of r.list (r ∷ []) ≡ range_with_len 0 (get_or after r.list 0) =
    ap₂ (λ (xs ys : List ℕ). xs ++ ys) (before r.list ∙ ap (range_with_len 0) (sym is)) (events_own r.list r refl)
    ∙ (sym (range_more r.number) ∙ ap (range_with_len 0) (sym (get_or-set_same next r.list (r.number + 1) 0 less))) in
    events_more l rows r
    ∙ elim (cases_eq r.list l) [
      | inl e ↦ subst (λ (m : ℕ). events_of m rows ++ events_of m (r ∷ []) ≡ range_with_len 0 (get_or after m 0)) e own
      | inr n ↦
          ap₂ (λ (xs ys : List ℕ). xs ++ ys) (before l) (events_other l r n)
          ∙ (append-nil (range_with_len 0 (get_or next l 0)) ∙ ap (range_with_len 0) (sym (get_or-set_other next r.list l (r.number + 1) 0 (λ e. n (sym e)))))
    ]

-- so many events of each list are on the page, at most as many as there are rows
filter_few : {X : Type 0} (p : X → Bool) (xs : List X) → length (filter p xs) ≤ length xs
filter_few p [] = omega arith
filter_few p (x ∷ xs) =
    let rest = filter_few p xs in
    cond_both (p x) (x ∷ filter p xs) (filter p xs) (λ ys. length ys ≤ suc (length xs)) (λ t. omega (arith, rest)) (λ f. omega (arith, rest))

pub number_few : (lists : List (List Entry)) (rows : List Row) (next : List ℕ) (places : List (List Standing)) (l n : ℕ) → IsUnderWay lists rows next places → n ≡ get_or next l 0 → n ≤ length rows
number_few lists rows next places l n h e =
    let own = λ (q : Row). eqb q.list l in
    let a = length-range_with_len 0 (get_or next l 0) in
    let b = ap length (h.in_order l) in
    let c = length-map (filter own rows) (λ (q : Row). q.number) in
    let d = filter_few own rows in
    omega arith

-- an event is one of a list
pub list_within : (lists : List (List Entry)) (l n : ℕ) (e : Entry) → entry_at lists l n ≡ Some e → l < length lists
list_within lists l n e h = option_and_then_some (λ (es : List Entry). slice_get es n) (slice_get lists l) e h (λ es at got. slice_get_within lists l es at)

spot_kept : {lists : List (List Entry)} {rows : List Row} {o : Origin} {s : Spot} (more : List Row) → IsSpot lists rows o s → IsSpot lists (rows ++ more) o s
spot_kept {lists} {rows} {o} {s} more h =
    record { row = h.row; entry = h.entry; item = h.item; stands = get_kept rows more s.row h.row h.stands; shows = h.shows; sends = h.sends; same = h.same }

events_kept : (lists : List (List Entry)) (rows : List Row) (r : Row) (e : Entry) → entry_at lists r.list r.number ≡ Some e → AreEvents lists rows → AreEvents lists (rows ++ r ∷ [])
events_kept lists rows r e at before = λ n q got.
    elim (get_cases rows r n q got) [
      | inl f ↦ before n q f
      | inr f ↦ (e, subst (λ (x : Row). entry_at lists x.list x.number ≡ Some e) (sym f.1) at)
    ]

above_kept : (lists : List (List Entry)) (rows : List Row) (places noted : List (List Standing)) (r : Row) (e : Entry) → entry_at lists r.list r.number ≡ Some e
    → StayNoted places noted → ((i : Item) → e.arrived ≡ i ∷ [] → (s : Spot) × (noted_at places i.origin ≡ Some s) × IsSpot lists rows i.origin s)
    → AreOutputAbove lists rows places → AreOutputAbove lists (rows ++ r ∷ []) noted
above_kept lists rows places noted r e at stay came before = λ n q d i got here arrives.
    elim (get_cases rows r n q got) [
      | inl f ↦
          let old = before n q d i f here arrives in
          record { spot = old.spot; noted = stay i.origin old.spot old.noted; above = old.above; is = spot_kept (r ∷ []) old.is }
      | inr f ↦
          let shown : Some e ≡ Some d = sym at ∙ (ap (λ (x : Row). entry_at lists x.list x.number) (sym f.1) ∙ here) in
          let same : e ≡ d = same_Some e d shown in
          let found = came i (ap (λ (x : Entry). x.arrived) same ∙ arrives) in
          record {
            spot = found.0;
            noted = stay i.origin found.0 found.1;
            above = subst (λ (m : ℕ). found.0.row < m) (sym f.0) (slice_get_within rows found.0.row found.2.row found.2.stands);
            is = spot_kept (r ∷ []) found.2;
          }
    ]

noted_kept : (lists : List (List Entry)) (rows : List Row) (places noted : List (List Standing)) (r : Row) (e : Entry) → entry_at lists r.list r.number ≡ Some e
    → AreNoted (length rows) 0 e.sent places noted → AreNotedIn lists rows places → AreNotedIn lists (rows ++ r ∷ []) noted
noted_kept lists rows places noted r e at notes before n k q d i got here sends =
    elim (get_cases rows r n q got) [
      | inl f ↦ some_stays places noted i.origin notes.stay (before n k q d i f here sends)
      | inr f ↦
          let shown : Some e ≡ Some d = sym at ∙ (ap (λ (x : Row). entry_at lists x.list x.number) (sym f.1) ∙ here) in
          let same : e ≡ d = same_Some e d shown in
          notes.all k i (ap (λ (x : Entry). slice_get x.sent k) same ∙ sends)
    ]

within_more : (lists : List (List Entry)) (next : List ℕ) (l n : ℕ) (e : Entry) → l < length next → entry_at lists l n ≡ Some e
    → ((k : ℕ) (es : List Entry) → slice_get lists k ≡ Some es → get_or next k 0 ≤ length es)
    → (k : ℕ) (es : List Entry) → slice_get lists k ≡ Some es → get_or (set next l (n + 1)) k 0 ≤ length es
within_more lists next l n e less at before k es here =
    elim (cases_eq l k) [
      | inl same ↦
          let found : slice_get lists l ≡ Some es = ap (slice_get lists) same ∙ here in
          let event : slice_get es n ≡ Some e = sym (ap (option_and_then (λ (xs : List Entry). slice_get xs n)) found) ∙ at in
          let inside : n < length es = slice_get_within es n e event in
          let is : get_or (set next l (n + 1)) l 0 ≡ n + 1 = get_or-set_same next l (n + 1) 0 less in
          subst (λ (m : ℕ). get_or (set next l (n + 1)) m 0 ≤ length es) same (omega (arith, is))
      | inr other ↦
          let is : get_or (set next l (n + 1)) k 0 ≡ get_or next k 0 = get_or-set_other next l k (n + 1) 0 (λ e. other (sym e)) in
          let old = before k es here in
          omega (arith, is, old)
    ]

-- an event that is put on the page: its item was output before, where it is an arrival, and the items that it sends are noted
pub went_on : (lists : List (List Entry)) (rows : List Row) (next : List ℕ) (places noted : List (List Standing)) (r : Row) (e : Entry)
    → IsUnderWay lists rows next places → r.number ≡ get_or next r.list 0 → entry_at lists r.list r.number ≡ Some e
    → ((i : Item) → e.arrived ≡ i ∷ [] → (s : Spot) × (noted_at places i.origin ≡ Some s))
    → AreNoted (length rows) 0 e.sent places noted
    → IsUnderWay lists (rows ++ r ∷ []) (set next r.list (r.number + 1)) noted
went_on lists rows next places noted r e h is at came notes =
    let less : r.list < length next = subst (λ (m : ℕ). r.list < m) (sym h.counted) (list_within lists r.list r.number e at) in
    record {
      counted = length-set next r.list (r.number + 1) ∙ h.counted;
      in_order = in_order_more rows next r less is h.in_order;
      within = within_more lists next r.list r.number e less at h.within;
      events = events_kept lists rows r e at h.events;
      output_above = above_kept lists rows places noted r e at notes.stay
          (λ i arrives. let found = came i arrives in (found.0, found.1, h.spots i.origin found.0 found.1)) h.output_above;
      spots = λ o s noted_here.
          elim (notes.came o s noted_here) [
            | inl old ↦ spot_kept (r ∷ []) (h.spots o s old)
            | inr one ↦
                record {
                  row = r;
                  entry = e;
                  item = one.item;
                  stands = subst (λ (m : ℕ). slice_get (rows ++ r ∷ []) m ≡ Some r) (sym one.in_row) (get_last rows r);
                  shows = at;
                  sends = subst (λ (m : ℕ). slice_get e.sent m ≡ Some one.item) (sym (one.at_place ∙ zero-add one.index)) one.sends;
                  same = one.same;
                }
          ];
      noted = noted_kept lists rows places noted r e at notes h.noted;
    }

pub nothing_arrives : (i : Item) → [] ≡ i ∷ [] → ⊥
nothing_arrives i h = cc

pub one_item : (i j : Item) → i ∷ [] ≡ j ∷ [] → i ≡ j
one_item i j h = cc

-- nothing comes onto the page, and nothing is noted
waits_on : (lists : List (List Entry)) (rows : List Row) (next : List ℕ) (places noted : List (List Standing)) → IsSameNoted places noted
    → IsUnderWay lists rows next places → IsUnderWay lists rows next noted
waits_on lists rows next places noted same h =
    record {
      counted = h.counted;
      in_order = h.in_order;
      within = h.within;
      events = h.events;
      output_above = λ n r e i got here arrives.
          let old = h.output_above n r e i got here arrives in
          record { spot = old.spot; noted = same.0 i.origin old.spot old.noted; above = old.above; is = old.is };
      spots = λ o s at. h.spots o s (same.1 o s at);
      noted = λ n k r e i got here sends. some_stays places noted i.origin same.0 (h.noted n k r e i got here sends);
    }

pub waited : (lists : List (List Entry)) (rows more : List Row) (next after : List ℕ) (places noted : List (List Standing)) → more ≡ rows → after ≡ next → IsSameNoted places noted
    → IsUnderWay lists rows next places → IsUnderWay lists more after noted
waited lists rows more next after places noted is_rows is_next unchanged h =
    subst (λ (x : List Row × List ℕ). IsUnderWay lists x.0 x.1 noted) (λ i. (sym is_rows i, sym is_next i)) (waits_on lists rows next places noted unchanged h)

-- the page when all is done
pub page_made : (lists : List (List Entry)) (rows : List Row) (next : List ℕ) (places : List (List Standing)) → IsUnderWay lists rows next places
    → IsPageOf lists (record { rows = rows; places = places })
page_made lists rows next places h =
    record {
      in_order = λ l. h.in_order l ∙ ap (range_with_len 0) (sym (ap length (h.in_order l) ∙ length-range_with_len 0 (get_or next l 0)));
      events = h.events;
      output_above = h.output_above;
      spots = h.spots;
      noted = h.noted;
    }

-- the page when no event is ahead
pub page_whole : (lists : List (List Entry)) (rows : List Row) (next : List ℕ) (places : List (List Standing)) → IsUnderWay lists rows next places → HasAll lists next
    → AreWhole lists rows
page_whole lists rows next places h all l es at =
    let low = h.within l es at in
    let high = all l es at in
    let same : get_or next l 0 ≡ length es = omega (arith, low, high) in
    h.in_order l ∙ ap (range_with_len 0) same

-- an empty page
pub page_empty : (lists : List (List Entry)) (next : List ℕ) → length next ≡ length lists → ((l : ℕ) → get_or next l 0 ≡ 0) → IsUnderWay lists [] next []
page_empty lists next counted none =
    record {
      counted = counted;
      in_order = λ l. ap (range_with_len 0) (sym (none l));
      within = λ l es at. let z = none l in omega (arith, z);
      events = λ n r at. absurd (none-some r at);
      output_above = λ n r e i at here arrives. absurd (none-some r at);
      spots = λ o s at. absurd (none-some s at);
      noted = λ n k r e i at here sends. absurd (none-some r at);
    }

-- a list of noughts
pub nought_at : (count n : ℕ) → ◌≡◌ {A = ℕ} (get_or (replicate count 0) n 0) 0
nought_at zero n = refl
nought_at (suc count) zero = refl
nought_at (suc count) (suc n) = nought_at count n

pub list_inside : (lists : List (List Entry)) (rows : List Row) (next : List ℕ) (places : List (List Standing)) (l n : ℕ) (e : Entry) → IsUnderWay lists rows next places
    → entry_at lists l n ≡ Some e → l < length next
list_inside lists rows next places l n e h at = subst (λ (m : ℕ). l < m) (sym h.counted) (list_within lists l n e at)

-- what is due was output, where it is an arrival
due_spot : (e : Seen) (places : List (List Standing)) → IsDue e places → (i : Item) → (entry_seen e).arrived ≡ i ∷ [] → (s : Spot) × (noted_at places i.origin ≡ Some s)
due_spot (seen.Arrival j) places due i h =
    let found = some_of (noted_at places j.now.origin) due in
    (found.0, subst (λ (x : Item). noted_at places x.origin ≡ Some found.0) (one_item j.now i h) found.1)
due_spot (seen.Turn done) places due i h = absurd (nothing_arrives i h)
due_spot (seen.Put o) places due i h = absurd (nothing_arrives i h)

-- an event that is due goes on the page
pub seen_on : (lists : List (List Entry)) (rows more : List Row) (next after : List ℕ) (places noted : List (List Standing)) (l n : ℕ) (e : Seen)
    → more ≡ rows ++ record { list = l; number = n } ∷ [] → after ≡ set next l (n + 1) → IsDue e places → AreNoted (length rows) 0 (entry_seen e).sent places noted
    → IsUnderWay lists rows next places → n ≡ get_or next l 0 → entry_at lists l n ≡ Some (entry_seen e) → IsUnderWay lists more after noted
seen_on lists rows more next after places noted l n e is_more is_after due notes h is at =
    let r : Row = record { list = l; number = n } in
    subst (λ (x : List Row × List ℕ). IsUnderWay lists x.0 x.1 noted) (λ i. (sym is_more i, sym is_after i))
    (went_on lists rows next places noted r (entry_seen e) h is at (due_spot e places due) notes)

-- an event is due where its item has come
pub due_come : (e : Seen) (places : List (List Standing)) → HasCome (entry_seen e) places → IsDue e places
due_come (seen.Arrival i) places come = come i.now refl
due_come (seen.Turn done) places come = tt
due_come (seen.Put o) places come = tt

-- a list that has an event of a number is not past
pub not_past : (lists : List (List Entry)) (l n : ℕ) (e : Entry) → IsPast lists l n → entry_at lists l n ≡ Some e → ⊥
not_past lists l n e past at =
    option_and_then_some (λ (es : List Entry). slice_get es n) (slice_get lists l) e at
    (λ es here got. let inside = slice_get_within es n e got in let beyond = past es here in omega (arith, inside, beyond))
