-- The ends of a station, taken from one worker after the other.
use Rattle.std.proofs.Common.{◌≡◌, ◌≢◌, ℕ, zero, suc, ◌+◌, ◌<◌, ◌≤◌, cond, List, [], ◌∷◌, ◌++◌, length, map, take, drop, Option, Some, None, slice_get, slice_set, slice_index_or, refl, ap, sym, ◌∙◌, subst, arith}
use Rattle.std.proofs.lemmas.Bool.{cond_both, cond-false}
use Rattle.std.proofs.lemmas.Option.{none-some, same_Some, slice_get_read}
use Rattle.std.proofs.lemmas.List.{append_assoc, append-nil, length-append}
use Rattle.std.specs.Option.{option_to_list}
use Rattle.std.specs.List.{flat_map}
use Rattle.sdl_routes.specs.declared.route.Station.{Station}
use Rattle.sdl_queue.specs.declared.rest.Rest.{Rest}
use Rattle.sdl_queue.specs.Rest.{AreRejoinedAs}
use Rattle.sdl_queue.specs.Ends.{FeedEnd, TapEnd, AreAllEnds}
use Rattle.sdl_forward_ends.specs.Stations.{same_station}
use Rattle.sdl_forward_ends.proofs.Same.{same_station_is, other_station}
use Rattle.sdl_forward_ends.specs.Ends.{WorkerEnds, feed_at, tap_at, column, taps, IsRejoinedAt}
use Rattle.sdl_forward_ends.specs.Shelves.{drop_feed, drop_tap, without, partly, later_of, latest}

-- at another station nothing is dropped

pub feed_kept : (fs : List (Station × FeedEnd)) (s t : Station) → t ≢ s → feed_at (drop_feed s fs) t ≡ feed_at fs t
feed_kept [] s t n = refl
feed_kept (f ∷ fs) s t n =
    cond_both (same_station f.0 s) fs (f ∷ drop_feed s fs) (λ (xs : List (Station × FeedEnd)). feed_at xs t ≡ feed_at (f ∷ fs) t)
    (λ e. sym (cond-false (same_station f.0 t) (Some f.1) (feed_at fs t) (other_station f.0 t (λ p. n (sym p ∙ same_station_is f.0 s e)))))
    (λ e. ap (λ (o : Option FeedEnd). cond (same_station f.0 t) (Some f.1) o) (feed_kept fs s t n))

pub tap_kept : (o : Option (Station × TapEnd)) (s t : Station) → t ≢ s → tap_at (drop_tap s o) t ≡ tap_at o t
tap_kept None s t n = refl
tap_kept (Some x) s t n =
    cond_both (same_station x.0 s) None (Some x) (λ (o : Option (Station × TapEnd)). tap_at o t ≡ tap_at (Some x) t)
    (λ e. sym (cond-false (same_station x.0 t) (Some x.1) None (other_station x.0 t (λ p. n (sym p ∙ same_station_is x.0 s e)))))
    (λ e. refl)

pub column_kept : (all : List WorkerEnds) (s t : Station) → t ≢ s → column t (map (without s) all) ≡ column t all
column_kept [] s t n = refl
column_kept (e ∷ all) s t n =
    let a = ap (λ (o : Option FeedEnd). option_to_list o) (feed_kept e.feeds s t n) in
    let b = column_kept all s t n in
    ap (λ xs. xs ++ column t (map (without s) all)) a ∙ ap (λ xs. option_to_list (feed_at e.feeds t) ++ xs) b

pub taps_kept : (all : List WorkerEnds) (s t : Station) → t ≢ s → taps t (map (without s) all) ≡ taps t all
taps_kept [] s t n = refl
taps_kept (e ∷ all) s t n =
    let a = ap (λ (o : Option TapEnd). option_to_list o) (tap_kept e.tap s t n) in
    let b = taps_kept all s t n in
    ap (λ xs. xs ++ taps t (map (without s) all)) a ∙ ap (λ xs. option_to_list (tap_at e.tap t) ++ xs) b

-- a list whose elements change one after the other
module _ {X : Type 0} (f : X → X) where
  pub partly_get : (k : ℕ) (xs : List X) → slice_get (partly f k xs) k ≡ slice_get xs k
  partly_get zero xs = refl
  partly_get (suc k) [] = refl
  partly_get (suc k) (x ∷ xs) = partly_get k xs

  pub partly_set : (k : ℕ) (xs : List X) (x : X) → slice_get xs k ≡ Some x → slice_set (partly f k xs) k (f x) ≡ partly f (suc k) xs
  partly_set zero [] x e = absurd (none-some x e)
  partly_set zero (y ∷ xs) x e = ap (λ z. f z ∷ xs) (sym (same_Some y x e))
  partly_set (suc k) [] x e = absurd (none-some x e)
  partly_set (suc k) (y ∷ xs) x e = ap (λ zs. f y ∷ zs) (partly_set k xs x e)

  pub partly_all : (k : ℕ) (xs : List X) → length xs ≤ k → partly f k xs ≡ map f xs
  partly_all zero [] e = refl
  partly_all zero (x ∷ xs) e = absurd (omega (arith, e))
  partly_all (suc k) [] e = refl
  partly_all (suc k) (x ∷ xs) e = ap (λ zs. f x ∷ zs) (partly_all k xs (omega (arith, e)))

  pub partly_length : (k : ℕ) (xs : List X) → length (partly f k xs) ≡ length xs
  partly_length zero xs = refl
  partly_length (suc k) [] = refl
  partly_length (suc k) (x ∷ xs) = ap suc (partly_length k xs)

module _ {X Y : Type 0} (g : X → List Y) where
  pub flat_step : (k : ℕ) (xs : List X) (x : X) → slice_get xs k ≡ Some x → flat_map g (take (suc k) xs) ≡ flat_map g (take k xs) ++ g x
  flat_step zero [] x e = absurd (none-some x e)
  flat_step zero (y ∷ xs) x e = ap (λ z. g z ++ []) (same_Some y x e) ∙ append-nil (g x)
  flat_step (suc k) [] x e = absurd (none-some x e)
  flat_step (suc k) (y ∷ xs) x e = ap (λ zs. g y ++ zs) (flat_step k xs x e) ∙ sym (append_assoc (g y) (flat_map g (take k xs)) (g x))

  pub flat_all : (k : ℕ) (xs : List X) → length xs ≤ k → flat_map g (take k xs) ≡ flat_map g xs
  flat_all zero [] e = refl
  flat_all zero (x ∷ xs) e = absurd (omega (arith, e))
  flat_all (suc k) [] e = refl
  flat_all (suc k) (x ∷ xs) e = ap (λ zs. g x ++ zs) (flat_all k xs (omega (arith, e)))

  -- what is still to come begins with what comes next
  pub flat_drop : (k : ℕ) (xs : List X) (x : X) → slice_get xs k ≡ Some x → flat_map g (drop k xs) ≡ g x ++ flat_map g (drop (suc k) xs)
  flat_drop zero [] x e = absurd (none-some x e)
  flat_drop zero (y ∷ xs) x e = ap (λ z. g z ++ flat_map g xs) (same_Some y x e)
  flat_drop (suc k) [] x e = absurd (none-some x e)
  flat_drop (suc k) (y ∷ xs) x e = flat_drop k xs x e

later_later : {X : Type 0} (a b c : Option X) → later_of a (later_of b c) ≡ later_of (later_of a b) c
later_later a b None = refl
later_later a b (Some x) = refl

pub latest_more : {X : Type 0} (xs : List X) (o : Option X) → latest (xs ++ option_to_list o) ≡ later_of (latest xs) o
latest_more [] None = refl
latest_more [] (Some x) = refl
latest_more (y ∷ ys) o = ap (later_of (Some y)) (latest_more ys o) ∙ later_later (Some y) (latest ys) o

-- an element at its place
pub place_get : {X : Type 0} (xs : List X) (k : ℕ) → k < length xs → (x : X) × (slice_get xs k ≡ Some x)
place_get [] k less = absurd (omega (arith, less))
place_get (x ∷ xs) zero less = (x, refl)
place_get (x ∷ xs) (suc k) less = place_get xs k (omega (arith, less))

-- one worker more has given its ends back
module _ (s : Station) (old now : List WorkerEnds) (k : ℕ) (so : now ≡ partly (without s) k old) (within : k < length old) where
  less : k < length now
  less = let a = ap length so in let b = partly_length (without s) k old in omega (arith, within, a, b)

  one_more : suc k ≡ k + 1
  one_more = omega arith

  abbrev one : WorkerEnds
  one = (place_get old k within).0

  one_at : slice_get old k ≡ Some (place_get old k within).0
  one_at = (place_get old k within).1

  pub one_is : (x : WorkerEnds) → x ≡ slice_index_or now k x → x ≡ one
  one_is x e =
      let a : slice_get now k ≡ Some x = slice_get_read now (length now) k x refl less e in
      same_Some x one (sym a ∙ (ap (λ (l : List WorkerEnds). slice_get l k) so ∙ (partly_get (without s) k old ∙ one_at)))

  pub then_is : (x y : WorkerEnds) → x ≡ slice_index_or now k x → y ≡ without s x → slice_set now k y ≡ partly (without s) (k + 1) old
  then_is x y e h =
      subst (λ (n : ℕ). slice_set now k y ≡ partly (without s) n old) one_more
      (ap (slice_set now k) (h ∙ ap (without s) (one_is x e))
      ∙ (ap (λ (l : List WorkerEnds). slice_set l k (without s one)) so ∙ partly_set (without s) k old one one_at))

  pub column_then : (x : WorkerEnds) (fs gs : List FeedEnd) → x ≡ slice_index_or now k x → fs ≡ column s (take k old) → gs ≡ fs ++ option_to_list (feed_at x.feeds s) → gs ≡ column s (take (k + 1) old)
  column_then x fs gs e f h =
      subst (λ (n : ℕ). gs ≡ column s (take n old)) one_more
      (h ∙ (ap (λ l. l ++ option_to_list (feed_at x.feeds s)) f
      ∙ (ap (λ (y : WorkerEnds). column s (take k old) ++ option_to_list (feed_at y.feeds s)) (one_is x e) ∙ sym (flat_step (λ (y : WorkerEnds). option_to_list (feed_at y.feeds s)) k old one one_at))))

  pub taps_then : (x : WorkerEnds) (o p : Option TapEnd) → x ≡ slice_index_or now k x → o ≡ latest (taps s (take k old)) → p ≡ later_of o (tap_at x.tap s) → p ≡ latest (taps s (take (k + 1) old))
  taps_then x o p e f h =
      subst (λ (n : ℕ). p ≡ latest (taps s (take n old))) one_more
      (h ∙ (ap (λ (q : Option TapEnd). later_of q (tap_at x.tap s)) f
      ∙ (ap (λ (y : WorkerEnds). later_of (latest (taps s (take k old))) (tap_at y.tap s)) (one_is x e)
      ∙ (sym (latest_more (taps s (take k old)) (tap_at one.tap s)) ∙ ap latest (sym (flat_step (λ (y : WorkerEnds). option_to_list (tap_at y.tap s)) k old one one_at))))))

  -- there is room for what comes, and then for the rest
  pub room_then : (x : WorkerEnds) → x ≡ slice_index_or now k x → length (column s (drop k old)) ≡ length (option_to_list (feed_at x.feeds s)) + length (column s (drop (k + 1) old))
  room_then x e =
      subst (λ (n : ℕ). length (column s (drop k old)) ≡ length (option_to_list (feed_at x.feeds s)) + length (column s (drop n old))) one_more
      (ap length (flat_drop (λ (y : WorkerEnds). option_to_list (feed_at y.feeds s)) k old one one_at)
      ∙ (length-append (option_to_list (feed_at one.feeds s)) (column s (drop (suc k) old))
      ∙ ap (λ (y : WorkerEnds). length (option_to_list (feed_at y.feeds s)) + length (column s (drop (suc k) old))) (sym (one_is x e))))

-- once all workers have given their ends back
module _ (s : Station) (old : List WorkerEnds) (k : ℕ) (past : length old ≤ k) where
  pub all_then : (now : List WorkerEnds) → now ≡ partly (without s) k old → now ≡ map (without s) old
  all_then now e = e ∙ partly_all (without s) k old past

  pub column_all : (fs : List FeedEnd) → fs ≡ column s (take k old) → fs ≡ column s old
  column_all fs e = e ∙ flat_all (λ (y : WorkerEnds). option_to_list (feed_at y.feeds s)) k old past

  -- the tap that was found is the one there is
  pub tap_all : (o : Option TapEnd) (t : TapEnd) → o ≡ latest (taps s (take k old)) → taps s old ≡ t ∷ [] → o ≡ Some t
  tap_all o t e h = e ∙ ap latest (flat_all (λ (y : WorkerEnds). option_to_list (tap_at y.tap s)) k old past ∙ h)

  -- they are all ends of the queue
  pub whole : (fs : List FeedEnd) (t u : TapEnd) (o : Option TapEnd) → fs ≡ column s (take k old) → o ≡ latest (taps s (take k old)) → o ≡ Some u → taps s old ≡ t ∷ [] → AreAllEnds (column s old) t → AreAllEnds fs u
  whole fs t u o e f h one all =
      let same : t ≡ u = same_Some t u (sym (tap_all o t f one) ∙ h) in
      subst (λ (xs : List FeedEnd). AreAllEnds xs u) (sym (column_all fs e)) (subst (AreAllEnds (column s old)) same all)

  pub rejoined : (fs : List FeedEnd) (t u : TapEnd) (o : Option TapEnd) (r : Rest) → fs ≡ column s (take k old) → o ≡ latest (taps s (take k old)) → o ≡ Some u → taps s old ≡ t ∷ []
      → AreRejoinedAs fs u r → IsRejoinedAt old s r
  rejoined fs t u o r e f h one is =
      let same : u ≡ t = sym (same_Some t u (sym (tap_all o t f one) ∙ h)) in
      (t, one, subst (λ (xs : List FeedEnd). AreRejoinedAs xs t r) (column_all fs e) (subst (λ (x : TapEnd). AreRejoinedAs fs x r) same is))
