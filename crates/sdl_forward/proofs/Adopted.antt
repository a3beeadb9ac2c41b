-- A list of queues that are made ones of one thread, each in its place.
use Rattle.std.proofs.Common.{◌≡◌, ◌≢◌, ℕ, zero, suc, ◌+◌, ◌<◌, ◌≤◌, List, [], ◌∷◌, length, Option, Some, None, Contains, slice_get, slice_set, refl, ap, sym, ◌∙◌, subst, arith, below_more}
use Rattle.std.specs.List.{insert, remove}
use Rattle.std.proofs.lemmas.List.{length-map}
use Rattle.std.proofs.lemmas.Option.{same_Some, slice_get_within}
use Rattle.sdl_signal.specs.declared.values.Item.{Item}
use Rattle.sdl_routes.specs.declared.route.Station.{Station}
use Rattle.sdl_queue.specs.declared.rest.Rest.{Rest}
use Rattle.sdl_queue.specs.declared.rest.Rest.TheVariants.{Serial, Ruled, Ring}
use Rattle.sdl_queue.specs.Rest.{left_in}
use Rattle.sdl_forward.specs.Boards.{stations_of, lists_of}
use Rattle.sdl_forward.specs.Serials.{AreSerial, IsFirstRuled, IsApart}
use Rattle.sdl_forward_ends.proofs.Places.{stations_get}
use Rattle.sdl_forward.proofs.Entries.{get_here, get_other, set_same, stations-lists, lists_get, lists_set, contained_at}

-- an element put at the place at which one was removed
pub put_in : {X : Type 0} (xs : List X) (k : ℕ) (x : X) → k < length xs → insert (remove xs k) k x ≡ slice_set xs k x
put_in [] k x less = absurd (omega arith)
put_in (y ∷ xs) zero x less = refl
put_in (y ∷ xs) (suc k) x less = ap (λ ys. y ∷ ys) (put_in xs k x (omega arith))

-- the queues before a place are of one thread
abbrev pub AreSerialBefore : ℕ → List (Station × Rest) → Type 0
AreSerialBefore n rests = (k : ℕ) (entry : Station × Rest) → k < n → slice_get rests k ≡ Some entry → (queue : List Item) × (entry.1 ≡ Serial queue)

abbrev IsSerialAt : List (Station × Rest) → ℕ → Type 0
IsSerialAt rests k = (entry : Station × Rest) → slice_get rests k ≡ Some entry → (queue : List Item) × (entry.1 ≡ Serial queue)

pub none_before : (rests : List (Station × Rest)) → AreSerialBefore 0 rests
none_before rests k entry less at = absurd (omega arith)

pub one_made : (rests : List (Station × Rest)) (n : ℕ) (old : Station × Rest) (s : Station) (queue : List Item) → slice_get rests n ≡ Some old → AreSerialBefore n rests
    → AreSerialBefore (n + 1) (slice_set rests n (s, Serial queue))
one_made rests n old s queue at before k entry less here =
    let new : List (Station × Rest) = slice_set rests n (s, Serial queue) in
    below_more (IsSerialAt new) n
    (λ j lower e there. let other : j ≢ n = omega arith in before j e lower (sym (get_other rests n j (s, Serial queue) other) ∙ there))
    (λ e there. (queue, ap (λ (x : Station × Rest). x.1) (sym (same_Some (s, Serial queue) e (sym (get_here rests n old (s, Serial queue) at) ∙ there)))))
    k less entry here

pub all_made : (rests : List (Station × Rest)) (n : ℕ) → length rests ≤ n → AreSerialBefore n rests → AreSerial rests
all_made rests n past before k entry at = let less : k < length rests = slice_get_within rests k entry at in before k entry (omega arith) at

-- what is left at the stations stays the same
pub lists_made : (rests : List (Station × Rest)) (k : ℕ) (old : Station × Rest) → slice_get rests k ≡ Some old → lists_of (slice_set rests k (old.0, Serial (left_in old.1))) ≡ lists_of rests
lists_made rests k old at = lists_set rests k (old.0, Serial (left_in old.1)) ∙ set_same (lists_of rests) k (old.0, left_in old.1) (lists_get rests k old at)

pub same_stations : (old new : List (Station × Rest)) → lists_of new ≡ lists_of old → stations_of new ≡ stations_of old
same_stations old new same = sym (stations-lists new) ∙ (ap stations_of same ∙ stations-lists old)

pub same_length : (old new : List (Station × Rest)) → lists_of new ≡ lists_of old → length new ≡ length old
same_length old new same = sym (length-map new (λ r. (r.0, left_in r.1))) ∙ (ap length same ∙ length-map old (λ r. (r.0, left_in r.1)))

-- the queue that was refused memory
pub refused_here : (old now : List (Station × Rest)) (n : ℕ) (s : Station) (apart : Rest) → lists_of now ≡ lists_of old → slice_get now n ≡ Some (s, apart) → Contains (stations_of old) s
refused_here old now n s apart same at = subst (λ (ss : List Station). Contains ss s) (same_stations old now same) (contained_at (stations_of now) s n (stations_get now n (s, apart) at))

first_here : (rests : List (Station × Rest)) (s : Station) (apart : Rest) → IsApart apart → IsFirstRuled ((s, apart) ∷ rests) s
first_here rests s (Serial queue) h = absurd h
first_here rests s (Ruled account) h = refl
first_here rests s (Ring account) h = refl

pub first_ruled : (rests : List (Station × Rest)) (n : ℕ) (s : Station) (apart : Rest) → AreSerialBefore n rests → IsApart apart → slice_get rests n ≡ Some (s, apart) → IsFirstRuled rests s
first_ruled [] n s apart before h at = let e : ◌≡◌ {A = Option (Station × Rest)} None (Some (s, apart)) = at in cc
first_ruled (r ∷ rests) zero s apart before h at = subst (λ (x : Station × Rest). IsFirstRuled (x ∷ rests) s) (sym (same_Some r (s, apart) at)) (first_here rests s apart h)
first_ruled (r ∷ rests) (suc n) s apart before h at =
    let serial = before zero r (omega arith) refl in
    subst (λ (x : Rest). IsFirstRuled ((r.0, x) ∷ rests) s) (sym serial.1)
    (first_ruled rests n s apart (λ k e less there. before (suc k) e (omega arith) there) h at)
