-- The queues of the stations are opened one after the other.
use Rattle.std.proofs.Common.{◌≡◌, ◌≢◌, ℕ, zero, suc, ◌+◌, ◌<◌, ◌≤◌, Bool, true, false, List, [], ◌∷◌, ◌++◌, length, map, Some, slice_get, refl, inl, inr, ap, sym, ◌∙◌, subst, arith}
use Rattle.std.proofs.lemmas.Option.{none-some, same_Some, slice_get_within}
use Rattle.std.proofs.lemmas.List.{length-map}
use Rattle.std.proofs.lemmas.List.FromFn.{length-map-range_with_len}
use Rattle.std.specs.List.{AllByRecursion, range_with_len}
use Rattle.sdl_routes.specs.declared.route.Station.{Station}
use Rattle.sdl_queue.specs.Ends.{Opening, FeedEnd, TapEnd, fresh_feed, fresh_feeds}
use Rattle.sdl_forward_ends.specs.Ends.{WorkerEnds, no_ends, column, taps}
use Rattle.sdl_forward_opening.specs.declared.worker.Worker.{Worker}
use Rattle.sdl_forward_opening.specs.Workers.{Among}
use Rattle.sdl_forward_opening.specs.Puts.{count_true}
use Rattle.sdl_forward_opening.specs.Opens.{IsFreshAt, fresh_tap}
use Rattle.sdl_forward_opening.specs.Hands.{with_tap, distributed, changed_at, all_empty, AddsQueue}
use Rattle.sdl_forward_opening.proofs.Distributing.{distributed_length}
use Rattle.sdl_forward_opening.proofs.Laid.{all_more, AreEach, HasFeeds, HasTap, each_length, column_other, column_here, taps_distributed, each_tap, each_feeds, none_fed, none_tapped, column_tapped, feeds_tapped, taps_given, taps_other, taps_here}

-- the queues of these stations are opened, where p says who puts where
pub record IsLaid (p : Station → Worker → Bool) (ws : List Worker) (done : List Station) (all : List WorkerEnds) (shelf : List (Station × ℕ)) : Type 0 where
  pub feeds : AreEach (HasFeeds p done) ws all
  pub tap : AreEach (HasTap done) ws all
  pub fresh : AllByRecursion (IsFreshAt all) done
  pub are : map (λ (x : Station × ℕ). x.0) shelf ≡ done
  pub room : AllByRecursion (λ (x : Station × ℕ). length (column x.0 all) ≤ x.1) shelf

none_feeds : (p : Station → Worker → Bool) (ws : List Worker) → AreEach (HasFeeds p []) ws (all_empty (length ws))
none_feeds p [] = tt
none_feeds p (w ∷ ws) = ((refl, tt), none_feeds p ws)

none_tap : (ws : List Worker) → AreEach (HasTap []) ws (all_empty (length ws))
none_tap [] = tt
none_tap (w ∷ ws) = ((λ t at. absurd (none-some t at)), none_tap ws)

-- at the start there are none
pub lays_none : (p : Station → Worker → Bool) (ws : List Worker) (n : ℕ) (all : List WorkerEnds) (shelf : List (Station × ℕ)) → n ≡ length ws → all ≡ all_empty n → shelf ≡ [] → IsLaid p ws [] all shelf
lays_none p ws n all shelf count empty none =
    subst (λ (es : List WorkerEnds). IsLaid p ws [] es shelf) (sym (empty ∙ ap all_empty count))
    (subst (λ (xs : List (Station × ℕ)). IsLaid p ws [] (all_empty (length ws)) xs) (sym none)
    (record { feeds = none_feeds p ws; tap = none_tap ws; fresh = tt; are = refl; room = tt }))

unput : (o : Opening) (ks : List ℕ) → AllByRecursion (λ (f : FeedEnd). f.put ≡ []) (map (fresh_feed o) ks)
unput o [] = tt
unput o (k ∷ ks) = (refl, unput o ks)

firsts_more : (shelf : List (Station × ℕ)) (x : Station × ℕ) → map (λ (y : Station × ℕ). y.0) (shelf ++ x ∷ []) ≡ map (λ (y : Station × ℕ). y.0) shelf ++ x.0 ∷ []
firsts_more [] x = refl
firsts_more (y ∷ shelf) x = ap (λ ss. y.0 ∷ ss) (firsts_more shelf x)

module _ (p : Station → Worker → Bool) (ws : List Worker) (done : List Station) (s : Station) (apart : Among s done → ⊥) (old new : List WorkerEnds) (shelf later : List (Station × ℕ))
    (laid : IsLaid p ws done old shelf) (adds : AddsQueue ws (map (p s) ws) s old new shelf later) where
  abbrev count : ℕ
  count = count_true (map (p s) ws)

  abbrev fs : List FeedEnd
  fs = fresh_feeds adds.opening count

  abbrev mid : List WorkerEnds
  mid = distributed s (map (p s) ws) fs old

  abbrev u : TapEnd
  u = fresh_tap adds.opening count

  abbrev then : List WorkerEnds
  then = changed_at (with_tap s u) adds.place mid

  counted : count ≡ length fs
  counted = sym (length-map-range_with_len (fresh_feed adds.opening) 0 count)

  mid_taps : AreEach (HasTap done) ws mid
  mid_taps = each_tap s done ws (map (p s) ws) fs old laid.tap

  mid_feeds : AreEach (HasFeeds p (done ++ s ∷ [])) ws mid
  mid_feeds = each_feeds s p done ws fs old counted (unput adds.opening (range_with_len 0 count)) laid.feeds

  column_kept : (t : Station) → s ≢ t → column t then ≡ column t old
  column_kept t n = column_tapped s u t adds.place mid ∙ column_other s t n (map (p s) ws) fs old

  taps_kept : (t : Station) → s ≢ t → taps t then ≡ taps t old
  taps_kept t n = taps_other s u t n done adds.place ws mid adds.there mid_taps ∙ taps_distributed s t (map (p s) ws) fs old

  column_is : column s then ≡ fs
  column_is =
      column_tapped s u s adds.place mid
      ∙ column_here s (map (p s) ws) fs old (none_fed p done s apart ws old laid.feeds) counted (length-map ws (p s) ∙ sym (each_length (HasFeeds p done) ws old laid.feeds))

  taps_are : taps s then ≡ u ∷ []
  taps_are =
      taps_here s u adds.place mid
      (let a = slice_get_within ws adds.place _ adds.there in let b = each_length (HasTap done) ws mid mid_taps in omega (arith, a, b))
      (none_tapped done s apart ws mid mid_taps)

  still_fresh : (ts : List Station) → ((t : Station) → Among t ts → Among t done) → AllByRecursion (IsFreshAt old) ts → AllByRecursion (IsFreshAt then) ts
  still_fresh [] m h = tt
  still_fresh (t ∷ ts) m h =
      let n : s ≢ t = λ e. apart (subst (λ (x : Station). Among x done) (sym e) (m t (inl refl))) in
      ((h.0.0, h.0.1, column_kept t n ∙ h.0.2, taps_kept t n ∙ h.0.3, h.0.4), still_fresh ts (λ x a. m x (inr a)) h.1)

  still_room : (xs : List (Station × ℕ)) → ((t : Station) → Among t (map (λ (x : Station × ℕ). x.0) xs) → Among t done) → AllByRecursion (λ (x : Station × ℕ). length (column x.0 old) ≤ x.1) xs
      → AllByRecursion (λ (x : Station × ℕ). length (column x.0 then) ≤ x.1) xs
  still_room [] m h = tt
  still_room (x ∷ xs) m h =
      let n : s ≢ x.0 = λ e. apart (subst (λ (y : Station). Among y done) (sym e) (m x.0 (inl refl))) in
      (subst (λ (c : List FeedEnd). length c ≤ x.1) (sym (column_kept x.0 n)) h.0, still_room xs (λ y a. m y (inr a)) h.1)

  has_room : length (column s then) ≤ adds.room
  has_room = let a = ap length column_is in let b = counted in let c = adds.enough in omega (arith, a, b, c)

  -- one station more
  pub lays_more : IsLaid p ws (done ++ s ∷ []) new later
  lays_more =
      subst (λ (es : List WorkerEnds). IsLaid p ws (done ++ s ∷ []) es later) (sym adds.ends)
      (subst (λ (xs : List (Station × ℕ)). IsLaid p ws (done ++ s ∷ []) then xs) (sym adds.behind)
      (record {
        feeds = feeds_tapped s u p (done ++ s ∷ []) adds.place ws mid mid_feeds;
        tap = taps_given s u done refl adds.place ws mid adds.there mid_taps;
        fresh = all_more (IsFreshAt then) done s (still_fresh done (λ t a. a) laid.fresh) (adds.opening, count, column_is, taps_are, adds.kind);
        are = firsts_more shelf (s, adds.room) ∙ ap (λ ss. ss ++ s ∷ []) laid.are;
        room = all_more (λ (x : Station × ℕ). length (column x.0 then) ≤ x.1) shelf (s, adds.room)
            (still_room shelf (λ t a. subst (Among t) laid.are a) laid.room) has_room;
      }))
