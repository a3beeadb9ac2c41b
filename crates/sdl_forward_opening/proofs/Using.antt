-- The ends of all workers are still all ends once they were used.
use Rattle.std.proofs.Common.{◌≡◌, ◌≢◌, ℕ, zero, suc, ◌+◌, ◌<◌, ◌≤◌, Bool, true, false, cond, List, [], ◌∷◌, ◌++◌, length, map, Option, Some, None, option_map, slice_get, slice_set, refl, inl, inr, ap, sym, ◌∙◌, subst, arith}
use Rattle.std.proofs.lemmas.Bool.{cond_both, cond-true, cond-false, cases_Bool}
use Rattle.std.proofs.lemmas.Option.{none-some, same_Some}
use Rattle.std.proofs.lemmas.List.{length-map, map-append}
use Rattle.std.specs.Option.{option_to_list}
use Rattle.std.specs.List.{AllByRecursion}
use Rattle.sdl_routes.specs.declared.route.Station.{Station}
use Rattle.sdl_queue.specs.Ends.{Opening, FeedEnd, TapEnd, put_of, AreAllEnds}
use Rattle.sdl_queue.specs.DelayLine.{Covers, HasNumber}
use Rattle.sdl_forward_ends.specs.Stations.{same_station}
use Rattle.sdl_forward_ends.specs.Ends.{WorkerEnds, feed_at, tap_at, feed_identity, tap_identity, column, taps, IsSameEnds, IsWholeAt, AreAllEndsOf}
use Rattle.sdl_forward_opening.specs.Used.{AreUsed}

-- which feed and which tap it is
abbrev mark : FeedEnd → Opening × ℕ
mark f = (f.opening, f.number)

abbrev tap_of : TapEnd → Opening × ℕ
tap_of t = (t.opening, t.feeders)

abbrev EndIdentity : Type 0
EndIdentity = Station × (Opening × ℕ)

abbrev head_or : EndIdentity → List EndIdentity → EndIdentity
head_or m [] = m
head_or m (x ∷ xs) = x

abbrev tail_of : List EndIdentity → List EndIdentity
tail_of [] = []
tail_of (x ∷ xs) = xs

some_or : EndIdentity → Option EndIdentity → EndIdentity
some_or m None = m
some_or m (Some x) = x

-- feeds of the same marks, at one station
feed_same : (s : Station) (fs gs : List (Station × FeedEnd)) → map feed_identity gs ≡ map feed_identity fs → option_map mark (feed_at gs s) ≡ option_map mark (feed_at fs s)
feed_same s [] [] e = refl
feed_same s [] (y ∷ gs) e = absurd (let a = ap length e in omega (arith, a))
feed_same s (x ∷ fs) [] e = absurd (let a = ap length e in omega (arith, a))
feed_same s (x ∷ fs) (y ∷ gs) e =
    let first : feed_identity y ≡ feed_identity x = ap (head_or (feed_identity y)) e in
    let later = feed_same s fs gs (ap tail_of e) in
    let same : same_station y.0 s ≡ same_station x.0 s = ap (λ (m : EndIdentity). same_station m.0 s) first in
    elim (cases_Bool (same_station x.0 s)) [
      | inl t ↦ ap (option_map mark) (cond-true (same_station y.0 s) (Some y.1) (feed_at gs s) (same ∙ t)) ∙ (ap (λ (m : EndIdentity). Some m.1) first ∙ sym (ap (option_map mark) (cond-true (same_station x.0 s) (Some x.1) (feed_at fs s) t)))
      | inr t ↦ ap (option_map mark) (cond-false (same_station y.0 s) (Some y.1) (feed_at gs s) (same ∙ t)) ∙ (later ∙ sym (ap (option_map mark) (cond-false (same_station x.0 s) (Some x.1) (feed_at fs s) t)))
    ]

tap_same : (s : Station) (o p : Option (Station × TapEnd)) → option_map tap_identity p ≡ option_map tap_identity o → option_map tap_of (tap_at p s) ≡ option_map tap_of (tap_at o s)
tap_same s None None e = refl
tap_same s None (Some u) e = absurd (none-some (tap_identity u) (sym e))
tap_same s (Some t) None e = absurd (none-some (tap_identity t) e)
tap_same s (Some t) (Some u) e =
    let first : tap_identity u ≡ tap_identity t = same_Some (tap_identity u) (tap_identity t) e in
    let same : same_station u.0 s ≡ same_station t.0 s = ap (λ (m : EndIdentity). same_station m.0 s) first in
    elim (cases_Bool (same_station t.0 s)) [
      | inl y ↦ ap (option_map tap_of) (cond-true (same_station u.0 s) (Some u.1) None (same ∙ y)) ∙ (ap (λ (m : EndIdentity). Some m.1) first ∙ sym (ap (option_map tap_of) (cond-true (same_station t.0 s) (Some t.1) None y)))
      | inr y ↦ ap (option_map tap_of) (cond-false (same_station u.0 s) (Some u.1) None (same ∙ y)) ∙ sym (ap (option_map tap_of) (cond-false (same_station t.0 s) (Some t.1) None y))
    ]

map_option : {X Y : Type 0} (f : X → Y) (o : Option X) → map f (option_to_list o) ≡ option_to_list (option_map f o)
map_option f None = refl
map_option f (Some x) = refl

option_same : {X Y : Type 0} (f : X → Y) (o p : Option X) (xs ys : List X) → option_map f p ≡ option_map f o → map f ys ≡ map f xs → map f (option_to_list p ++ ys) ≡ map f (option_to_list o ++ xs)
option_same f o p xs ys e h =
    map-append f (option_to_list p) ys ∙ (ap (λ zs. zs ++ map f ys) (map_option f p ∙ (ap option_to_list e ∙ sym (map_option f o))) ∙ (ap (λ zs. map f (option_to_list o) ++ zs) h ∙ sym (map-append f (option_to_list o) xs)))

column_same : (s : Station) (old new : List WorkerEnds) → AreUsed old new → map mark (column s new) ≡ map mark (column s old)
column_same s [] [] u = refl
column_same s [] (f ∷ new) u = absurd u
column_same s (e ∷ old) [] u = absurd u
column_same s (e ∷ old) (f ∷ new) u = option_same mark (feed_at e.feeds s) (feed_at f.feeds s) (column s old) (column s new) (feed_same s e.feeds f.feeds u.0.feeds) (column_same s old new u.1)

taps_same : (s : Station) (old new : List WorkerEnds) → AreUsed old new → map tap_of (taps s new) ≡ map tap_of (taps s old)
taps_same s [] [] u = refl
taps_same s [] (f ∷ new) u = absurd u
taps_same s (e ∷ old) [] u = absurd u
taps_same s (e ∷ old) (f ∷ new) u = option_same tap_of (tap_at e.tap s) (tap_at f.tap s) (taps s old) (taps s new) (tap_same s e.tap f.tap u.0.tap) (taps_same s old new u.1)

abbrev first_or : Opening × ℕ → List (Opening × ℕ) → Opening × ℕ
first_or m [] = m
first_or m (x ∷ xs) = x

abbrev rest_of : List (Opening × ℕ) → List (Opening × ℕ)
rest_of [] = []
rest_of (x ∷ xs) = xs

-- feeds of the same marks are of the same opening, and have the same numbers
opening_same : (o : Opening) (fs gs : List FeedEnd) → map mark gs ≡ map mark fs → AllByRecursion (λ (f : FeedEnd). f.opening ≡ o) fs → AllByRecursion (λ (f : FeedEnd). f.opening ≡ o) gs
opening_same o fs [] e h = tt
opening_same o [] (g ∷ gs) e h = absurd (let a = ap length e in omega (arith, a))
opening_same o (f ∷ fs) (g ∷ gs) e h = (ap (λ (m : Opening × ℕ). m.0) (ap (first_or (mark g)) e) ∙ h.0, opening_same o fs gs (ap rest_of e) h.1)

number_same : (n : ℕ) (fs gs : List FeedEnd) → map mark gs ≡ map mark fs → HasNumber n (map put_of fs) → HasNumber n (map put_of gs)
number_same n [] gs e h = absurd h
number_same n (f ∷ fs) [] e h = absurd (let a = ap length e in omega (arith, a))
number_same n (f ∷ fs) (g ∷ gs) e h =
    elim h [ inl a ↦ inl (ap (λ (m : Opening × ℕ). m.1) (ap (first_or (mark g)) e) ∙ a) | inr b ↦ inr (number_same n fs gs (ap rest_of e) b) ]

one_tap : (ts : List TapEnd) (t : TapEnd) → map tap_of ts ≡ tap_of t ∷ [] → (u : TapEnd) × (ts ≡ u ∷ []) × (tap_of u ≡ tap_of t)
one_tap [] t e = absurd (let a = ap length e in omega (arith, a))
one_tap (u ∷ []) t e = (u, refl, ap (first_or (tap_of u)) e)
one_tap (u ∷ v ∷ ts) t e = absurd (let a = ap length e in omega (arith, a))

same_length : (fs gs : List FeedEnd) → map mark gs ≡ map mark fs → length gs ≡ length fs
same_length fs gs e = sym (length-map gs mark) ∙ (ap length e ∙ length-map fs mark)

all_same : (fs gs : List FeedEnd) (t u : TapEnd) → map mark gs ≡ map mark fs → tap_of u ≡ tap_of t → AreAllEnds fs t → AreAllEnds gs u
all_same fs gs t u e same h =
    let opening : u.opening ≡ t.opening = ap (λ (m : Opening × ℕ). m.0) same in
    let feeders : u.feeders ≡ t.feeders = ap (λ (m : Opening × ℕ). m.1) same in (
      subst (λ (o : Opening). AllByRecursion (λ (f : FeedEnd). f.opening ≡ o) gs) (sym opening) (opening_same t.opening fs gs e h.0),
      same_length fs gs e ∙ (h.1 ∙ sym feeders),
      λ f less. number_same f fs gs e (h.2 f (omega (arith, less, feeders))),
    )

whole_same : (s : Station) (old new : List WorkerEnds) → AreUsed old new → IsWholeAt s old → IsWholeAt s new
whole_same s old new u (t, one, h) =
    let found = one_tap (taps s new) t (taps_same s old new u ∙ ap (map tap_of) one) in
    (found.0, found.1, all_same (column s old) (column s new) t found.0 (column_same s old new u) found.2 h)

pub stay_whole : (stations : List Station) (old new : List WorkerEnds) → AreUsed old new → AreAllEndsOf stations old → AreAllEndsOf stations new
stay_whole [] old new u h = tt
stay_whole (s ∷ stations) old new u h = (whole_same s old new u h.0, stay_whole stations old new u h.1)

pub stay_room : (shelf : List (Station × ℕ)) (old new : List WorkerEnds) → AreUsed old new → AllByRecursion (λ (x : Station × ℕ). length (column x.0 old) ≤ x.1) shelf → AllByRecursion (λ (x : Station × ℕ). length (column x.0 new) ≤ x.1) shelf
stay_room [] old new u h = tt
stay_room (x ∷ shelf) old new u h =
    ((let a = same_length (column x.0 old) (column x.0 new) (column_same x.0 old new u) in let b = h.0 in omega (arith, a, b)), stay_room shelf old new u h.1)

-- worker by worker

pub unused : (all : List WorkerEnds) → AreUsed all all
unused [] = tt
unused (e ∷ all) = (record { feeds = refl; tap = refl }, unused all)

pub used_length : (old new : List WorkerEnds) → AreUsed old new → length new ≡ length old
used_length [] [] u = refl
used_length [] (f ∷ new) u = absurd u
used_length (e ∷ old) [] u = absurd u
used_length (e ∷ old) (f ∷ new) u = ap suc (used_length old new u.1)

pub same_then : (a b c : WorkerEnds) → IsSameEnds a b → IsSameEnds b c → IsSameEnds a c
same_then a b c h k = record { feeds = k.feeds ∙ h.feeds; tap = k.tap ∙ h.tap }

-- one worker more has used its ends
pub used_more : (old now : List WorkerEnds) (k : ℕ) (e f : WorkerEnds) → AreUsed old now → slice_get now k ≡ Some e → IsSameEnds e f → AreUsed old (slice_set now k f)
used_more [] [] k e f u at same = tt
used_more [] (y ∷ now) k e f u at same = absurd u
used_more (x ∷ old) [] k e f u at same = absurd u
used_more (x ∷ old) (y ∷ now) zero e f u at same = (same_then x y f u.0 (subst (λ (z : WorkerEnds). IsSameEnds z f) (sym (same_Some y e at)) same), u.1)
used_more (x ∷ old) (y ∷ now) (suc k) e f u at same = (u.0, used_more old now k e f u.1 at same)
