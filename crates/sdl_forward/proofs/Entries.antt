-- What waits at a station, when the entry at one place of the list changes.
use Rattle.std.proofs.Common.{◌≡◌, ◌≢◌, ℕ, zero, suc, ◌<◌, false, cond, List, [], ◌∷◌, ◌++◌, length, Option, Some, None, MatchOption, Contains, slice_get, slice_set, slice_index_or, refl, ap, sym, ◌∙◌, subst, arith}
use Rattle.std.proofs.lemmas.Bool.{cond-true, cond-false}
use Rattle.std.proofs.lemmas.List.{length-map}
use Rattle.std.proofs.lemmas.Option.{same_Some, get_or_from_slice_get, slice_get_within, slice_get_read}
use Rattle.sdl_signal.specs.declared.values.Item.{Item}
use Rattle.sdl_routes.specs.declared.route.Station.{Station}
use Rattle.sdl_routes.specs.Routes.{EachOnce}
use Rattle.sdl_forward_ends.proofs.Places.{one_at, stations_get}
use Rattle.sdl_queue.specs.declared.rest.Rest.{Rest}
use Rattle.sdl_queue.specs.declared.rest.Rest.TheVariants.{Serial, Ruled, Ring}
use Rattle.sdl_queue.specs.Ends.{Account}
use Rattle.sdl_queue.specs.Rest.{left_in}
use Rattle.sdl_forward.specs.Boards.{same_station, stations_of, waiting, lists_of, ChangesOnly}
use Rattle.sdl_forward.specs.Serials.{AreSerial}
use Rattle.sdl_forward.proofs.Same.{same_station_itself, other_station}

-- the entry at a place, read and written
pub get_here : {X : Type 0} (xs : List X) (k : ℕ) (old new : X) → slice_get xs k ≡ Some old → slice_get (slice_set xs k new) k ≡ Some new
get_here [] k old new at = let e : None ≡ Some old = at in cc
get_here (x ∷ xs) zero old new at = refl
get_here (x ∷ xs) (suc k) old new at = get_here xs k old new at

pub get_other : {X : Type 0} (xs : List X) (k j : ℕ) (new : X) → j ≢ k → slice_get (slice_set xs k new) j ≡ slice_get xs j
get_other [] k j new n = refl
get_other (x ∷ xs) zero zero new n = absurd (n refl)
get_other (x ∷ xs) zero (suc j) new n = refl
get_other (x ∷ xs) (suc k) zero new n = refl
get_other (x ∷ xs) (suc k) (suc j) new n = get_other xs k j new (λ e. n (ap suc e))

pub set_same : {X : Type 0} (xs : List X) (k : ℕ) (x : X) → slice_get xs k ≡ Some x → slice_set xs k x ≡ xs
set_same [] k x at = refl
set_same (y ∷ xs) zero x at = let e : Some y ≡ Some x = at in ap (λ z. z ∷ xs) (sym (same_Some y x e))
set_same (y ∷ xs) (suc k) x at = ap (λ zs. y ∷ zs) (set_same xs k x at)

-- the stations of the entries
pub stations-lists : (rests : List (Station × Rest)) → stations_of (lists_of rests) ≡ stations_of rests
stations-lists [] = refl
stations-lists (r ∷ rests) = ap (λ ss. r.0 ∷ ss) (stations-lists rests)

pub stations_set : {X : Type 0} (es : List (Station × X)) (k : ℕ) (old new : Station × X) → slice_get es k ≡ Some old → new.0 ≡ old.0 → stations_of (slice_set es k new) ≡ stations_of es
stations_set [] k old new at same = refl
stations_set (x ∷ es) zero old new at same = ap (λ s. s ∷ stations_of es) (same ∙ sym (ap (λ (y : Station × _). y.0) (same_Some x old at)))
stations_set (x ∷ es) (suc k) old new at same = ap (λ ss. x.0 ∷ ss) (stations_set es k old new at same)

pub lists_get : (rests : List (Station × Rest)) (k : ℕ) (r : Station × Rest) → slice_get rests k ≡ Some r → slice_get (lists_of rests) k ≡ Some (r.0, left_in r.1)
lists_get [] k r at = let f : None ≡ Some r = at in cc
lists_get (x ∷ rests) zero r at = ap (λ (y : Station × Rest). Some (y.0, left_in y.1)) (same_Some x r at)
lists_get (x ∷ rests) (suc k) r at = lists_get rests k r at

pub lists_set : (rests : List (Station × Rest)) (k : ℕ) (r : Station × Rest) → lists_of (slice_set rests k r) ≡ slice_set (lists_of rests) k (r.0, left_in r.1)
lists_set [] k r = refl
lists_set (x ∷ rests) zero r = refl
lists_set (x ∷ rests) (suc k) r = ap (λ es. (x.0, left_in x.1) ∷ es) (lists_set rests k r)

-- what waits at the station of an entry, where no other entry is of that station
waiting_at : (es : List (Station × List Item)) (k : ℕ) (s : Station) (items : List Item) → slice_get es k ≡ Some (s, items)
    → ((j : ℕ) → slice_get (stations_of es) j ≡ Some s → j ≡ k) → waiting es s ≡ items
waiting_at [] k s items at only = let f : ◌≡◌ {A = Option (Station × List Item)} None (Some (s, items)) = at in cc
waiting_at (e ∷ es) zero s items at only =
    let is : e ≡ (s, items) = same_Some e (s, items) at in
    subst (λ (x : Station × List Item). cond (same_station x.0 s) x.1 (waiting es s) ≡ items) (sym is)
    (cond-true (same_station s s) items (waiting es s) (same_station_itself s))
waiting_at (e ∷ es) (suc k) s items at only =
    let not_here : e.0 ≢ s = λ p. (let z : zero ≡ suc k = only zero (ap Some p) in cc) in
    cond-false (same_station e.0 s) e.1 (waiting es s) (other_station e.0 s not_here)
    ∙ waiting_at es k s items at (λ j h. let z : suc j ≡ suc k = only (suc j) h in omega arith)

pub waiting_none : (es : List (Station × List Item)) (s : Station) → ((j : ℕ) → slice_get (stations_of es) j ≢ Some s) → waiting es s ≡ []
waiting_none [] s none = refl
waiting_none (e ∷ es) s none =
    cond-false (same_station e.0 s) e.1 (waiting es s) (other_station e.0 s (λ p. none zero (ap Some p)))
    ∙ waiting_none es s (λ j. none (suc j))

-- at another station the same items wait
waiting_other : (es : List (Station × List Item)) (k : ℕ) (s t : Station) (old new : List Item) → slice_get es k ≡ Some (s, old) → t ≢ s
    → waiting (slice_set es k (s, new)) t ≡ waiting es t
waiting_other [] k s t old new at n = refl
waiting_other (e ∷ es) zero s t old new at n =
    let is : e ≡ (s, old) = same_Some e (s, old) at in
    let other : same_station s t ≡ false = other_station s t (λ p. n (sym p)) in
    cond-false (same_station s t) new (waiting es t) other
    ∙ sym (subst (λ (x : Station × List Item). cond (same_station x.0 t) x.1 (waiting es t) ≡ waiting es t) (sym is) (cond-false (same_station s t) old (waiting es t) other))
waiting_other (e ∷ es) (suc k) s t old new at n = ap (λ items. cond (same_station e.0 t) e.1 items) (waiting_other es k s t old new at n)

-- the place of a station's entry
pub place_within : (rests : List (Station × Rest)) (s : Station) (k : ℕ) → slice_get (stations_of rests) k ≡ Some s → k < length rests
place_within rests s k found = subst (λ n. k < n) (length-map rests (λ e. e.0)) (slice_get_within (stations_of rests) k s found)

pub contained_at : (ss : List Station) (s : Station) (k : ℕ) → slice_get ss k ≡ Some s → Contains ss s
contained_at ss s k at = (k, slice_get_within ss k s at, get_or_from_slice_get ss k s s at)

-- the same where the list was looked at as a slice
pub found_in : (rests slice : List (Station × Rest)) (s : Station) (k : ℕ) → slice ≡ rests → slice_get (stations_of slice) k ≡ Some s → slice_get (stations_of rests) k ≡ Some s
found_in rests slice s k same found = subst (λ (es : List (Station × Rest)). slice_get (stations_of es) k ≡ Some s) same found

pub not_in : (rests slice : List (Station × Rest)) (s : Station) → slice ≡ rests → (Contains (stations_of slice) s → ⊥) → Contains (stations_of rests) s → ⊥
not_in rests slice s same none there = none (subst (λ (es : List (Station × Rest)). Contains (stations_of es) s) (sym same) there)

pub not_contained : (rests : List (Station × Rest)) (s : Station) → (Contains (stations_of rests) s → ⊥) → waiting (lists_of rests) s ≡ []
not_contained rests s none = waiting_none (lists_of rests) s
    (λ j at. none (contained_at (stations_of rests) s j (subst (λ (ss : List Station). slice_get ss j ≡ Some s) (stations-lists rests) at)))

pub contained_here : (rests : List (Station × Rest)) (s : Station) → Contains (stations_of (lists_of rests)) s → Contains (stations_of rests) s
contained_here rests s h = subst (λ (ss : List Station). Contains ss s) (stations-lists rests) h

pub serial_set : (rests : List (Station × Rest)) (k : ℕ) (s : Station) (queue : List Item) → AreSerial rests → AreSerial (slice_set rests k (s, Serial queue))
serial_set [] k s queue serial j e at = serial j e at
serial_set (x ∷ rests) zero s queue serial zero e at = (queue, ap (λ (y : Station × Rest). y.1) (sym (same_Some (s, Serial queue) e at)))
serial_set (x ∷ rests) zero s queue serial (suc j) e at = serial (suc j) e at
serial_set (x ∷ rests) (suc k) s queue serial zero e at = serial zero e at
serial_set (x ∷ rests) (suc k) s queue serial (suc j) e at = serial_set rests k s queue (λ i f h. serial (suc i) f h) j e at

pub not_ruled : (rests : List (Station × Rest)) (k : ℕ) (e : Station × Rest) (account : Account) → AreSerial rests → slice_get rests k ≡ Some e → e.1 ≡ Ruled account → ⊥
not_ruled rests k e account serial at is = let f : Ruled account ≡ Serial (serial k e at).0 = sym is ∙ (serial k e at).1 in cc

pub not_ring : (rests : List (Station × Rest)) (k : ℕ) (e : Station × Rest) (account : _) → AreSerial rests → slice_get rests k ≡ Some e → e.1 ≡ Ring account → ⊥
not_ring rests k e account serial at is = let f : Ring account ≡ Serial (serial k e at).0 = sym is ∙ (serial k e at).1 in cc

pub entry_here : (rests : List (Station × Rest)) (s : Station) (k : ℕ) (e : Station × Rest) → slice_get (stations_of rests) k ≡ Some s
    → e ≡ slice_index_or rests k e → slice_get rests k ≡ Some e
entry_here rests s k e found is = slice_get_read rests (length rests) k e refl (place_within rests s k found) is

-- the entry at the place of a station, and what another queue there changes
module _ (rests : List (Station × Rest)) (s : Station) (k : ℕ) (entry : Station × Rest)
    (once : EachOnce (stations_of rests)) (found : slice_get (stations_of rests) k ≡ Some s) (here : slice_get rests k ≡ Some entry) where
  its_station : entry.0 ≡ s
  its_station = same_Some entry.0 s (sym (stations_get rests k entry here) ∙ found)

  alone : (es : List (Station × List Item)) → stations_of es ≡ stations_of rests → (j : ℕ) → slice_get (stations_of es) j ≡ Some s → j ≡ k
  alone es same j at = one_at (stations_of rests) j k s once (subst (λ (ss : List Station). slice_get ss j ≡ Some s) same at) found

  entry_at : slice_get (lists_of rests) k ≡ Some (s, left_in entry.1)
  entry_at = subst (λ (t : Station). slice_get (lists_of rests) k ≡ Some (t, left_in entry.1)) its_station (lists_get rests k entry here)

  pub waits : waiting (lists_of rests) s ≡ left_in entry.1
  waits = waiting_at (lists_of rests) k s (left_in entry.1) entry_at (alone (lists_of rests) (stations-lists rests))

  pub stations_same : (queue : List Item) → stations_of (slice_set rests k (entry.0, Serial queue)) ≡ stations_of rests
  stations_same queue = stations_set rests k entry (entry.0, Serial queue) here refl

  now_list : (queue : List Item) → lists_of (slice_set rests k (entry.0, Serial queue)) ≡ slice_set (lists_of rests) k (s, queue)
  now_list queue = lists_set rests k (entry.0, Serial queue) ∙ ap (λ (t : Station). slice_set (lists_of rests) k (t, queue)) its_station

  pub waits_now : (queue : List Item) → waiting (lists_of (slice_set rests k (entry.0, Serial queue))) s ≡ queue
  waits_now queue = waiting_at (lists_of (slice_set rests k (entry.0, Serial queue))) k s queue
      (ap (λ (es : List (Station × List Item)). slice_get es k) (now_list queue) ∙ get_here (lists_of rests) k (s, left_in entry.1) (s, queue) entry_at)
      (alone (lists_of (slice_set rests k (entry.0, Serial queue))) (stations-lists (slice_set rests k (entry.0, Serial queue)) ∙ stations_same queue))

  pub changes : (queue : List Item) → ChangesOnly (lists_of rests) (lists_of (slice_set rests k (entry.0, Serial queue))) s
  changes queue = record {
    stations = stations-lists (slice_set rests k (entry.0, Serial queue)) ∙ stations_same queue ∙ sym (stations-lists rests);
    others = λ t n. ap (λ (es : List (Station × List Item)). waiting es t) (now_list queue) ∙ waiting_other (lists_of rests) k s t (left_in entry.1) queue entry_at n;
  }

  pub once_same : (queue : List Item) → EachOnce (stations_of (slice_set rests k (entry.0, Serial queue)))
  once_same queue = subst EachOnce (sym (stations_same queue)) once

  module _ (queue after : List Item) (serial : entry.1 ≡ Serial queue) where
    was : waiting (lists_of rests) s ≡ queue
    was = waits ∙ ap left_in serial

    as_before : after ≡ queue → lists_of (slice_set rests k (entry.0, Serial after)) ≡ lists_of rests
    as_before same =
        let e : ◌≡◌ {A = Rest} (Serial after) entry.1 = ap Serial same ∙ sym serial in
        ap lists_of (ap (λ (r : Rest). slice_set rests k (entry.0, r)) e ∙ set_same rests k entry here)

    pub takes : (result : Option Item) → MatchOption result ((queue ≡ []) × (after ≡ [])) (λ item. queue ≡ item ∷ after)
        → MatchOption result ((waiting (lists_of rests) s ≡ []) × (lists_of (slice_set rests k (entry.0, Serial after)) ≡ lists_of rests))
        (λ item. waiting (lists_of rests) s ≡ item ∷ waiting (lists_of (slice_set rests k (entry.0, Serial after))) s)
    takes None h = (was ∙ h.0, as_before (h.1 ∙ sym h.0))
    takes (Some item) h = was ∙ h ∙ ap (λ xs. item ∷ xs) (sym (waits_now after))

    pub puts : (left old : Option Item) → MatchOption left (MatchOption old (after ≡ queue) (λ item. after ≡ queue ++ item ∷ [])) (λ back. (old ≡ Some back) × (after ≡ queue))
        → MatchOption left
        (MatchOption old (lists_of (slice_set rests k (entry.0, Serial after)) ≡ lists_of rests)
        (λ item. waiting (lists_of (slice_set rests k (entry.0, Serial after))) s ≡ waiting (lists_of rests) s ++ item ∷ []))
        (λ back. (old ≡ Some back) × (lists_of (slice_set rests k (entry.0, Serial after)) ≡ lists_of rests))
    puts None None h = as_before h
    puts None (Some item) h = waits_now after ∙ h ∙ ap (λ xs. xs ++ item ∷ []) (sym was)
    puts (Some back) old h = (h.0, as_before h.1)
