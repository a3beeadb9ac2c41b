-- The feed at one place, changed or given back, and the feeds that are held then.
use Rattle.std.proofs.Common.{◌≡◌, ◌≢◌, ◌↔◌, ℕ, zero, suc, ◌<◌, Bool, IsTrue, cond, List, [], ◌∷◌, length, map, Option, Some, None, is_some, slice_get, slice_set, slice_index_or, refl, inl, inr, ap, sym, ◌∙◌, subst, arith}
use Rattle.std.proofs.lemmas.Bool.{cond-true, cond-false, cases_Bool, false≢true}
use Rattle.std.proofs.lemmas.List.{length-map}
use Rattle.std.proofs.lemmas.Option.{none-some, same_Some, slice_get_read, slice_get_within}
use Rattle.sdl_routes.specs.declared.route.Station.{Station}
use Rattle.sdl_queue.specs.Ends.{Opening, FeedEnd, IsSameFeed}
use Rattle.sdl_forward_ends.specs.declared.index.Index.{Index}
use Rattle.sdl_forward_ends.specs.Stations.{same_station, stations_of}
use Rattle.sdl_forward_ends.specs.Ends.{WorkerEnds, HasFeed, feed_at, feed_identity}
use Rattle.sdl_forward_ends.specs.Index.{place_of, IsIndexOf}
use Rattle.sdl_forward_ends.specs.FeedsLeft.{Place, with_feed, feeds_held, filled}
use Rattle.sdl_forward_ends.specs.Shelves.{drop_feed}
use Rattle.sdl_forward_ends.proofs.Same.{same_station_itself, other_station}
use Rattle.sdl_forward_ends.proofs.Places.{stations_get}

pub filled_held : (fs : List (Station × FeedEnd)) → feeds_held (map filled fs) ≡ fs
filled_held [] = refl
filled_held (f ∷ fs) = ap (λ xs. f ∷ xs) (filled_held fs)

pub filled_stations : (fs : List (Station × FeedEnd)) → stations_of (map filled fs) ≡ stations_of fs
filled_stations [] = refl
filled_stations (f ∷ fs) = ap (λ ss. f.0 ∷ ss) (filled_stations fs)

pub stations_set : (ps : List Place) (k : ℕ) (s : Station) (o p : Option FeedEnd) → slice_get ps k ≡ Some (s, o) → stations_of (slice_set ps k (s, p)) ≡ stations_of ps
stations_set [] k s o p at = refl
stations_set (x ∷ ps) zero s o p at = ap (λ (y : Place). y.0 ∷ stations_of ps) (sym (same_Some x (s, o) at))
stations_set (x ∷ ps) (suc k) s o p at = ap (λ ss. x.0 ∷ ss) (stations_set ps k s o p at)

get_set : (ps : List Place) (k : ℕ) (old new : Place) → slice_get ps k ≡ Some old → slice_get (slice_set ps k new) k ≡ Some new
get_set [] k old new at = absurd (none-some old at)
get_set (x ∷ ps) zero old new at = refl
get_set (x ∷ ps) (suc k) old new at = get_set ps k old new at

-- a place in front of the others

front_here : (s : Station) (o : Option FeedEnd) (fs : List (Station × FeedEnd)) → feed_at fs s ≡ None → feed_at (with_feed s o fs) s ≡ o
front_here s None fs e = e
front_here s (Some f) fs e = cond-true (same_station s s) (Some f) (feed_at fs s) (same_station_itself s)

front_other : (t s : Station) (o : Option FeedEnd) (fs : List (Station × FeedEnd)) → t ≢ s → feed_at (with_feed t o fs) s ≡ feed_at fs s
front_other t s None fs n = refl
front_other t s (Some f) fs n = cond-false (same_station t s) (Some f) (feed_at fs s) (other_station t s n)

drop_other : (t s : Station) (o : Option FeedEnd) (fs : List (Station × FeedEnd)) → t ≢ s → drop_feed s (with_feed t o fs) ≡ with_feed t o (drop_feed s fs)
drop_other t s None fs n = refl
drop_other t s (Some f) fs n = cond-false (same_station t s) fs ((t, f) ∷ drop_feed s fs) (other_station t s n)

-- where no feed is of the station, none is dropped
pub drop_none : (fs : List (Station × FeedEnd)) (s : Station) → feed_at fs s ≡ None → drop_feed s fs ≡ fs
drop_none [] s e = refl
drop_none (f ∷ fs) s e =
    elim (cases_Bool (same_station f.0 s)) as (λ _. drop_feed s (f ∷ fs) ≡ f ∷ fs) [
      | inl t ↦ absurd (none-some f.1 (sym e ∙ cond-true (same_station f.0 s) (Some f.1) (feed_at fs s) t))
      | inr t ↦ cond-false (same_station f.0 s) fs (f ∷ drop_feed s fs) t ∙ ap (λ xs. f ∷ xs) (drop_none fs s (sym (cond-false (same_station f.0 s) (Some f.1) (feed_at fs s) t) ∙ e))
    ]

drop_here : (s : Station) (o : Option FeedEnd) (fs : List (Station × FeedEnd)) → feed_at fs s ≡ None → drop_feed s (with_feed s o fs) ≡ fs
drop_here s None fs e = drop_none fs s e
drop_here s (Some f) fs e = cond-true (same_station s s) fs ((s, f) ∷ drop_feed s fs) (same_station_itself s)

pub held_none : (ps : List Place) (s : Station) → ((j : ℕ) → slice_get (stations_of ps) j ≢ Some s) → feed_at (feeds_held ps) s ≡ None
held_none [] s none = refl
held_none (p ∷ ps) s none = front_other p.0 s p.1 (feeds_held ps) (λ e. none zero (ap Some e)) ∙ held_none ps s (λ j. none (suc j))

-- the station stands at no other place
abbrev pub IsOnlyAt : List Place → Station → ℕ → Type 0
IsOnlyAt ps s k = (j : ℕ) → slice_get (stations_of ps) j ≡ Some s → j ≡ k

module _ (s : Station) where
  none_behind : (p : Place) (ps : List Place) → IsOnlyAt (p ∷ ps) s zero → (j : ℕ) → slice_get (stations_of ps) j ≢ Some s
  none_behind p ps only j at = let z : suc j ≡ zero = only (suc j) at in omega (arith, z)

  not_in_front : (p : Place) (ps : List Place) (k : ℕ) → IsOnlyAt (p ∷ ps) s (suc k) → p.0 ≢ s
  not_in_front p ps k only e = let z : zero ≡ suc k = only zero (ap Some e) in omega (arith, z)

  only_behind : (p : Place) (ps : List Place) (k : ℕ) → IsOnlyAt (p ∷ ps) s (suc k) → IsOnlyAt ps s k
  only_behind p ps k only j at = let z : suc j ≡ suc k = only (suc j) at in omega (arith, z)

  pub held_at : (ps : List Place) (k : ℕ) (o : Option FeedEnd) → slice_get ps k ≡ Some (s, o) → IsOnlyAt ps s k → feed_at (feeds_held ps) s ≡ o
  held_at [] k o at only = absurd (none-some (s, o) at)
  held_at (p ∷ ps) zero o at only =
      subst (λ (x : Place). feed_at (with_feed x.0 x.1 (feeds_held ps)) s ≡ o) (sym (same_Some p (s, o) at)) (front_here s o (feeds_held ps) (held_none ps s (none_behind p ps only)))
  held_at (p ∷ ps) (suc k) o at only = front_other p.0 s p.1 (feeds_held ps) (not_in_front p ps k only) ∙ held_at ps k o at (only_behind p ps k only)

  pub held_other : (ps : List Place) (k : ℕ) (o q : Option FeedEnd) (t : Station) → slice_get ps k ≡ Some (s, o) → t ≢ s → feed_at (feeds_held (slice_set ps k (s, q))) t ≡ feed_at (feeds_held ps) t
  held_other [] k o q t at n = refl
  held_other (p ∷ ps) zero o q t at n =
      subst (λ (x : Place). feed_at (with_feed s q (feeds_held ps)) t ≡ feed_at (with_feed x.0 x.1 (feeds_held ps)) t) (sym (same_Some p (s, o) at))
      (front_other s t q (feeds_held ps) (λ e. n (sym e)) ∙ sym (front_other s t o (feeds_held ps) (λ e. n (sym e))))
  held_other (p ∷ ps) (suc k) o q t at n = behind p.1 (held_other ps k o q t at n)
    where
      behind : (x : Option FeedEnd) → feed_at (feeds_held (slice_set ps k (s, q))) t ≡ feed_at (feeds_held ps) t
          → feed_at (with_feed p.0 x (feeds_held (slice_set ps k (s, q)))) t ≡ feed_at (with_feed p.0 x (feeds_held ps)) t
      behind None e = e
      behind (Some f) e = ap (λ (r : Option FeedEnd). cond (same_station p.0 t) (Some f) r) e

  pub given_back : (ps : List Place) (k : ℕ) (o : Option FeedEnd) → slice_get ps k ≡ Some (s, o) → IsOnlyAt ps s k → feeds_held (slice_set ps k (s, None)) ≡ drop_feed s (feeds_held ps)
  given_back [] k o at only = refl
  given_back (p ∷ ps) zero o at only =
      subst (λ (x : Place). feeds_held ps ≡ drop_feed s (with_feed x.0 x.1 (feeds_held ps))) (sym (same_Some p (s, o) at)) (sym (drop_here s o (feeds_held ps) (held_none ps s (none_behind p ps only))))
  given_back (p ∷ ps) (suc k) o at only =
      ap (with_feed p.0 p.1) (given_back ps k o at (only_behind p ps k only)) ∙ sym (drop_other p.0 s p.1 (feeds_held ps) (not_in_front p ps k only))

  pub marks_set : (ps : List Place) (k : ℕ) (f g : FeedEnd) → slice_get ps k ≡ Some (s, Some f) → IsSameFeed f g → map feed_identity (feeds_held (slice_set ps k (s, Some g))) ≡ map feed_identity (feeds_held ps)
  marks_set [] k f g at same = refl
  marks_set (p ∷ ps) zero f g at same =
      subst (λ (x : Place). feed_identity (s, g) ∷ map feed_identity (feeds_held ps) ≡ map feed_identity (with_feed x.0 x.1 (feeds_held ps))) (sym (same_Some p (s, Some f) at))
      (ap (λ (o : Opening). (s, (o, g.number)) ∷ map feed_identity (feeds_held ps)) same.0 ∙ ap (λ (n : ℕ). (s, (f.opening, n)) ∷ map feed_identity (feeds_held ps)) same.1)
  marks_set (p ∷ ps) (suc k) f g at same = behind p.1 (marks_set ps k f g at same)
    where
      behind : (x : Option FeedEnd) → map feed_identity (feeds_held (slice_set ps k (s, Some g))) ≡ map feed_identity (feeds_held ps)
          → map feed_identity (with_feed p.0 x (feeds_held (slice_set ps k (s, Some g)))) ≡ map feed_identity (with_feed p.0 x (feeds_held ps))
      behind None e = e
      behind (Some h) e = ap (λ ms. feed_identity (p.0, h) ∷ ms) e

-- what the index says of a place
pub absent : (index : Index) (ps : List Place) (s : Station) → IsIndexOf index (stations_of ps) → place_of index s ≡ None → feed_at (feeds_held ps) s ≡ None
absent index ps s ok none = held_none ps s (λ j at. none-some j (sym none ∙ ok.every s j at))

module _ (index : Index) (ps : List Place) (s : Station) (k : ℕ) (ok : IsIndexOf index (stations_of ps)) (found : place_of index s ≡ Some k) where
  pub within : k < length ps
  within = subst (λ n. k < n) (length-map ps (λ e. e.0)) (slice_get_within (stations_of ps) k s (ok.only s k found))

  pub only_at : IsOnlyAt ps s k
  only_at j at = same_Some j k (sym (ok.every s j at) ∙ found)

  module _ (p : Place) (read : p ≡ slice_index_or ps k p) where
    is : slice_get ps k ≡ Some p
    is = slice_get_read ps (length ps) k p refl within read

    pub of_station : p.0 ≡ s
    of_station = same_Some p.0 s (sym (stations_get ps k p is) ∙ ok.only s k found)

    pub here : slice_get ps k ≡ Some (s, p.1)
    here = is ∙ ap (λ (t : Station). Some (t, p.1)) of_station

    pub feed_is : feed_at (feeds_held ps) s ≡ p.1
    feed_is = held_at s ps k p.1 here only_at

    pub set_is : (q : Option FeedEnd) → slice_set ps k (p.0, q) ≡ slice_set ps k (s, q)
    set_is q = ap (λ (t : Station). slice_set ps k (t, q)) of_station

    pub stations_now : (q : Option FeedEnd) → stations_of (slice_set ps k (p.0, q)) ≡ stations_of ps
    stations_now q = ap stations_of (set_is q) ∙ stations_set ps k s p.1 q here

    pub index_now : (q : Option FeedEnd) → IsIndexOf index (stations_of (slice_set ps k (p.0, q)))
    index_now q = subst (λ (ss : List Station). IsIndexOf index ss) (sym (stations_now q)) ok

    pub feed_now : (q : Option FeedEnd) → feed_at (feeds_held (slice_set ps k (p.0, q))) s ≡ q
    feed_now q =
        ap (λ (xs : List Place). feed_at (feeds_held xs) s) (set_is q)
        ∙ held_at s (slice_set ps k (s, q)) k q (get_set ps k (s, p.1) (s, q) here) (subst (λ (ss : List Station). (j : ℕ) → slice_get ss j ≡ Some s → j ≡ k) (sym (stations_set ps k s p.1 q here)) only_at)

    pub feed_elsewhere : (q : Option FeedEnd) (t : Station) → t ≢ s → feed_at (feeds_held (slice_set ps k (p.0, q))) t ≡ feed_at (feeds_held ps) t
    feed_elsewhere q t n = ap (λ (xs : List Place). feed_at (feeds_held xs) t) (set_is q) ∙ held_other s ps k p.1 q t here n

    pub held_back : feeds_held (slice_set ps k (p.0, None)) ≡ drop_feed s (feeds_held ps)
    held_back = ap feeds_held (set_is None) ∙ given_back s ps k p.1 here only_at

    pub marks_now : (f g : FeedEnd) → p.1 ≡ Some f → IsSameFeed f g → map feed_identity (feeds_held (slice_set ps k (p.0, Some g))) ≡ map feed_identity (feeds_held ps)
    marks_now f g e same = ap (λ (xs : List Place). map feed_identity (feeds_held xs)) (set_is (Some g)) ∙ marks_set s ps k f g (here ∙ ap (λ (o : Option FeedEnd). Some (s, o)) e) same

-- whether there is a feed
pub fed : (e : WorkerEnds) (s : Station) (o : Option FeedEnd) (b : Bool) → feed_at e.feeds s ≡ o → b ≡ is_some o → IsTrue b ↔ HasFeed e s
fed e s None b at is = ((λ t. absurd (false≢true (sym is ∙ t))), λ h. absurd (none-some h.0 (sym at ∙ h.1)))
fed e s (Some f) b at is = ((λ _. (f, at)), λ _. is)
