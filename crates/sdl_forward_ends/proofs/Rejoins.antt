-- The queues of all stations, put together one after the other.
use Rattle.std.proofs.Common.{◌≡◌, ◌≢◌, ℕ, ◌<◌, ◌≤◌, List, [], ◌∷◌, ◌++◌, length, map, slice_index_or, vec_capacity, refl, ap, sym, ◌∙◌, subst, arith}
use Rattle.std.proofs.lemmas.List.{append_assoc, append-nil}
use Rattle.std.specs.List.{AllByRecursion, remove}
use Rattle.sdl_routes.specs.declared.route.Station.{Station}
use Rattle.sdl_routes.specs.Routes.{EachOnce}
use Rattle.sdl_queue.specs.declared.rest.Rest.{Rest}
use Rattle.sdl_queue.specs.Rest.{AreRejoinedAs}
use Rattle.sdl_queue.specs.Ends.{FeedEnd, AreAllEnds}
use Rattle.sdl_forward_ends.specs.Stations.{stations_of}
use Rattle.sdl_forward_ends.specs.Ends.{WorkerEnds, column, taps, IsWholeAt, AreAllEndsOf, IsRejoinedAt, AreRejoined}
use Rattle.sdl_forward_ends.specs.declared.shelf.Slot.{Slot}
use Rattle.sdl_forward_ends.specs.Shelves.{room_of, IsFree, without, IsUnderway}
use Rattle.sdl_forward_ends.proofs.Shelves.{column_kept, taps_kept}

pub rejoined_more : (all : List WorkerEnds) (ss : List Station) (rests : List (Station × Rest)) (s : Station) (r : Rest) → AreRejoined all ss rests → IsRejoinedAt all s r → AreRejoined all (ss ++ s ∷ []) (rests ++ (s, r) ∷ [])
rejoined_more all [] [] s r h k = (refl, k, tt)
rejoined_more all [] (x ∷ rests) s r h k = absurd h
rejoined_more all (t ∷ ss) [] s r h k = absurd h
rejoined_more all (t ∷ ss) (x ∷ rests) s r h k = (h.0, h.1, rejoined_more all ss rests s r h.2 k)

stations_more : (rests : List (Station × Rest)) (r : Station × Rest) → stations_of (rests ++ r ∷ []) ≡ stations_of rests ++ r.0 ∷ []
stations_more [] r = refl
stations_more (x ∷ rests) r = ap (λ ss. x.0 ∷ ss) (stations_more rests r)

pub rejoined_as : (all now : List WorkerEnds) (s : Station) (r : Rest) → column s now ≡ column s all → taps s now ≡ taps s all → IsRejoinedAt now s r → IsRejoinedAt all s r
rejoined_as all now s r c t (u, one, h) = (u, sym t ∙ one, subst (λ (fs : List FeedEnd). AreRejoinedAs fs u r) c h)

pub whole_as : (all now : List WorkerEnds) (s : Station) → column s now ≡ column s all → taps s now ≡ taps s all → IsWholeAt s all → IsWholeAt s now
whole_as all now s c t (u, one, h) = (u, t ∙ one, subst (λ (fs : List FeedEnd). AreAllEnds fs u) (sym c) h)

same_behind : (all now : List WorkerEnds) (s : Station) (slots : List Slot) → AllByRecursion (λ (t : Station). s ≢ t) (map (λ (x : Slot). x.station) slots)
    → AllByRecursion (λ (x : Slot). (column x.station now ≡ column x.station all) × (taps x.station now ≡ taps x.station all)) slots
    → AllByRecursion (λ (x : Slot). (column x.station (map (without s) now) ≡ column x.station all) × (taps x.station (map (without s) now) ≡ taps x.station all)) slots
same_behind all now s [] apart same = tt
same_behind all now s (x ∷ slots) apart same = (
  (column_kept now s x.station (λ e. apart.0 (sym e)) ∙ same.0.0, taps_kept now s x.station (λ e. apart.0 (sym e)) ∙ same.0.1),
  same_behind all now s slots apart.1 same.1,
)

rooms_are : (slots : List Slot) → map (λ (x : Station × ℕ). x.0) (map room_of slots) ≡ map (λ (x : Slot). x.station) slots
rooms_are [] = refl
rooms_are (x ∷ slots) = ap (λ ss. x.station ∷ ss) (rooms_are slots)

-- at the start no queue is back
pub begins : (all : List WorkerEnds) (slots : List Slot) (rests : List (Station × Rest)) (shelf : List (Station × ℕ)) → map room_of slots ≡ shelf → rests ≡ [] → AllByRecursion IsFree slots
    → EachOnce (map (λ (x : Station × ℕ). x.0) shelf) → AreAllEndsOf (map (λ (x : Station × ℕ). x.0) shelf) all → AllByRecursion (λ (x : Station × ℕ). length (column x.0 all) ≤ x.1) shelf
    → IsUnderway all (map (λ (x : Station × ℕ). x.0) shelf) slots rests all
begins all slots rests shelf view none free once ends room =
    let are = ap (map (λ (x : Station × ℕ). x.0)) (sym view) ∙ rooms_are slots in
    record {
      are = ap (λ (rs : List (Station × Rest)). stations_of rs ++ map (λ (x : Slot). x.station) slots) none ∙ sym are;
      back = subst (λ (rs : List (Station × Rest)). AreRejoined all (stations_of rs) rs) (sym none) tt;
      once = subst EachOnce are once;
      free = free;
      whole = whole_each slots (subst (λ (ss : List Station). AllByRecursion (λ (s : Station). IsWholeAt s all) ss) are ends);
      room = room_each slots (subst (AllByRecursion (λ (x : Station × ℕ). length (column x.0 all) ≤ x.1)) (sym view) room);
      same = same_each slots;
    }
  where
    whole_each : (ss : List Slot) → AllByRecursion (λ (s : Station). IsWholeAt s all) (map (λ (x : Slot). x.station) ss) → AllByRecursion (λ (x : Slot). IsWholeAt x.station all) ss
    whole_each [] h = tt
    whole_each (x ∷ ss) h = (h.0, whole_each ss h.1)

    room_each : (ss : List Slot) → AllByRecursion (λ (x : Station × ℕ). length (column x.0 all) ≤ x.1) (map room_of ss) → AllByRecursion (λ (x : Slot). length (column x.station all) ≤ vec_capacity x.feeds) ss
    room_each [] h = tt
    room_each (x ∷ ss) h = (h.0, room_each ss h.1)

    same_each : (ss : List Slot) → AllByRecursion (λ (x : Slot). (column x.station all ≡ column x.station all) × (taps x.station all ≡ taps x.station all)) ss
    same_each [] = tt
    same_each (x ∷ ss) = ((refl, refl), same_each ss)

-- one queue more is back
pub goes_on : (all : List WorkerEnds) (stations : List Station) (slot : Slot) (slots : List Slot) (rests later : List (Station × Rest)) (now then : List WorkerEnds) (rest : Rest)
    → IsUnderway all stations (slot ∷ slots) rests now → IsRejoinedAt now slot.station rest → then ≡ map (without slot.station) now → later ≡ rests ++ (slot.station, rest) ∷ [] → IsUnderway all stations slots later then
goes_on all stations slot slots rests later now then rest u back after more =
    let s = slot.station in
    let now_are : stations_of later ≡ stations_of rests ++ s ∷ [] = ap stations_of more ∙ stations_more rests (s, rest) in
    record {
      are = ap (λ ss. ss ++ map (λ (x : Slot). x.station) slots) now_are ∙ (append_assoc (stations_of rests) (s ∷ []) (map (λ (x : Slot). x.station) slots) ∙ u.are);
      back = subst (λ (ss : List Station). AreRejoined all ss later) (sym now_are)
          (subst (AreRejoined all (stations_of rests ++ s ∷ [])) (sym more) (rejoined_more all (stations_of rests) rests s rest u.back (rejoined_as all now s rest u.same.0.0 u.same.0.1 back)));
      once = u.once.1;
      free = u.free.1;
      whole = u.whole.1;
      room = u.room.1;
      same = subst (λ (es : List WorkerEnds). AllByRecursion (λ (x : Slot). (column x.station es ≡ column x.station all) × (taps x.station es ≡ taps x.station all)) slots) (sym after)
          (same_behind all now s slots u.once.0 u.same.1);
    }

-- all queues are back
pub ends : (all : List WorkerEnds) (stations : List Station) (slots : List Slot) (rests : List (Station × Rest)) (now : List WorkerEnds) → length slots ≡ 0 → IsUnderway all stations slots rests now → AreRejoined all stations rests
ends all stations [] rests now e u = subst (λ (ss : List Station). AreRejoined all ss rests) (sym (append-nil (stations_of rests)) ∙ u.are) u.back
ends all stations (x ∷ slots) rests now e u = absurd (omega (arith, e))

pub of_first : (P : Slot → Type 0) (x : Slot) (slots rest : List Slot) → slots ≡ x ∷ rest → AllByRecursion P slots → P x
of_first P x slots rest e h = (subst (AllByRecursion P) e h).0

pub first_of : (slots : List Slot) (x : Slot) → 0 < length slots → x ≡ slice_index_or slots 0 x → slots ≡ x ∷ remove slots 0
first_of [] x less e = absurd (omega (arith, less))
first_of (y ∷ slots) x less e = ap (λ z. z ∷ slots) (sym e)

-- what a station's ends need is there
pub at_first : (all : List WorkerEnds) (stations : List Station) (slots rest : List Slot) (slot : Slot) (rests : List (Station × Rest)) (now : List WorkerEnds) → slots ≡ slot ∷ rest → IsUnderway all stations slots rests now
    → IsFree slot × IsWholeAt slot.station now × (length (column slot.station now) ≤ vec_capacity slot.feeds) × IsUnderway all stations (slot ∷ rest) rests now
at_first all stations slots rest slot rests now e h =
    let u = subst (λ (ss : List Slot). IsUnderway all stations ss rests now) e h in (
      u.free.0,
      whole_as all now slot.station u.same.0.0 u.same.0.1 u.whole.0,
      subst (λ (fs : List FeedEnd). length fs ≤ vec_capacity slot.feeds) (sym u.same.0.0) u.room.0,
      u,
    )
