-- Feeds that are flushed one after the other.
use Rattle.std.proofs.Common.{◌≡◌, ◌↔◌, ◌&&◌, ℕ, zero, suc, ◌+◌, ◌<◌, ◌≤◌, Bool, true, false, IsTrue, List, [], ◌∷◌, length, map, take, cond, Option, Some, None, slice_get, slice_set, refl, ap, sym, ◌∙◌, subst, arith, add-one}
use Rattle.std.proofs.lemmas.Bool.{false≢true}
use Rattle.std.proofs.lemmas.Option.{none-some, same_Some}
use Rattle.std.specs.List.{AllByRecursion}
use Rattle.sdl_signal.specs.declared.values.Item.{Item}
use Rattle.sdl_routes.specs.declared.route.Station.{Station}
use Rattle.sdl_queue.specs.Ends.{Opening, FeedEnd, TapEnd, IsSameFeed}
use Rattle.sdl_forward_ends.specs.Stations.{same_station, stations_of}
use Rattle.sdl_forward_ends.specs.Ends.{WorkerEnds, feed_at, feed_identity, put_at, HasNoBacklog, IsSameEnds}
use Rattle.sdl_forward_ends.specs.FeedsLeft.{Place, with_feed, feeds_held}
use Rattle.sdl_forward_ends.specs.Flushed.{IsFlushed, AreFlushed, IsClear, IsClearAt}

itself : (o : Option FeedEnd) → IsFlushed o o
itself None = tt
itself (Some f) = ((refl, refl), refl)

pub all_themselves : (ps : List Place) → AreFlushed ps ps
all_themselves [] = tt
all_themselves (p ∷ ps) = (refl, itself p.1, all_themselves ps)

further : (o p q : Option FeedEnd) → IsFlushed o p → IsFlushed p q → IsFlushed o q
further None None None h k = tt
further None None (Some z) h k = absurd k
further None (Some y) q h k = absurd h
further (Some x) None q h k = absurd h
further (Some x) (Some y) None h k = absurd k
further (Some x) (Some y) (Some z) h k = ((k.0.0 ∙ h.0.0, k.0.1 ∙ h.0.1), k.1 ∙ h.1)

-- one feed more is flushed
pub one_more : (old now : List Place) (k : ℕ) (p : Place) (q : Option FeedEnd) → slice_get now k ≡ Some p → IsFlushed p.1 q → AreFlushed old now → AreFlushed old (slice_set now k (p.0, q))
one_more old [] k p q at h are = absurd (none-some p at)
one_more [] (y ∷ now) k p q at h are = absurd are
one_more (x ∷ old) (y ∷ now) zero p q at h are =
    let same : y ≡ p = same_Some y p at in (
      ap (λ (z : Place). z.0) (sym same) ∙ are.0,
      further x.1 y.1 q are.1 (subst (λ (z : Place). IsFlushed z.1 q) (sym same) h),
      are.2,
    )
one_more (x ∷ old) (y ∷ now) (suc k) p q at h are = (are.0, are.1, one_more old now k p q at h are.2)

-- the feeds before a place are clear, and the one at it
pub clear_more : (now : List Place) (k : ℕ) (p q : Place) → slice_get now k ≡ Some p → AllByRecursion IsClearAt (take k now) → IsClearAt q → AllByRecursion IsClearAt (take (suc k) (slice_set now k q))
clear_more [] k p q at all here = absurd (none-some p at)
clear_more (y ∷ now) zero p q at all here = (here, tt)
clear_more (y ∷ now) (suc k) p q at all here = (all.0, clear_more now k p q at all.1 here)

pub clear_here : (now : List Place) (k : ℕ) (p q : Place) → slice_get now k ≡ Some p → AllByRecursion IsClearAt (take (suc k) (slice_set now k q)) → IsClearAt q
clear_here [] k p q at all = absurd (none-some p at)
clear_here (y ∷ now) zero p q at all = all.0
clear_here (y ∷ now) (suc k) p q at all = clear_here now k p q at all.1

pub clear_before : (now : List Place) (k : ℕ) (p q : Place) → slice_get now k ≡ Some p → AllByRecursion IsClearAt (take (suc k) (slice_set now k q)) → AllByRecursion IsClearAt (take k now)
clear_before [] k p q at all = absurd (none-some p at)
clear_before (y ∷ now) zero p q at all = tt
clear_before (y ∷ now) (suc k) p q at all = (all.0, clear_before now k p q at all.1)

pub clear_all : (now : List Place) (k : ℕ) → length now ≤ k → take k now ≡ now
clear_all [] zero past = refl
clear_all [] (suc k) past = refl
clear_all (y ∷ now) zero past = absurd (omega (arith, past))
clear_all (y ∷ now) (suc k) past = ap (λ ys. y ∷ ys) (clear_all now k (omega (arith, past)))

-- the loop goes on
pub goes_on : (old now : List Place) (k : ℕ) (p : Place) (q : Option FeedEnd) (b r : Bool) → slice_get now k ≡ Some p → IsFlushed p.1 q → (IsTrue r ↔ IsClear q) → AreFlushed old now
    → (IsTrue b ↔ AllByRecursion IsClearAt (take k now)) → AreFlushed old (slice_set now k (p.0, q)) × (IsTrue (b && r) ↔ AllByRecursion IsClearAt (take (k + 1) (slice_set now k (p.0, q))))
goes_on old now k p q b r at h clear are all = (
  one_more old now k p q at h are,
  subst (λ (n : ℕ). IsTrue (b && r) ↔ AllByRecursion IsClearAt (take n (slice_set now k (p.0, q)))) (sym (add-one k)) (by_both b all),
)
  where
    by_both : (x : Bool) → (IsTrue x ↔ AllByRecursion IsClearAt (take k now)) → IsTrue (x && r) ↔ AllByRecursion IsClearAt (take (suc k) (slice_set now k (p.0, q)))
    by_both true a = ((λ t. clear_more now k p (p.0, q) at (a.0 refl) (clear.0 t)), λ every. clear.1 (clear_here now k p (p.0, q) at every))
    by_both false a = ((λ t. absurd (false≢true t)), λ every. a.1 (clear_before now k p (p.0, q) at every))

-- and ends
pub all_clear : (now : List Place) (k : ℕ) (b : Bool) → length now ≤ k → (IsTrue b ↔ AllByRecursion IsClearAt (take k now)) → IsTrue b ↔ AllByRecursion IsClearAt now
all_clear now k b past all = subst (λ (xs : List Place). IsTrue b ↔ AllByRecursion IsClearAt xs) (clear_all now k past) all

pub same_number : (old now : List Place) → AreFlushed old now → length now ≡ length old
same_number [] [] h = refl
same_number [] (y ∷ now) h = absurd h
same_number (x ∷ old) [] h = absurd h
same_number (x ∷ old) (y ∷ now) h = ap suc (same_number old now h.2)

-- what does not change of the ends

pub stations_kept : (old now : List Place) → AreFlushed old now → stations_of now ≡ stations_of old
stations_kept [] [] h = refl
stations_kept [] (y ∷ now) h = absurd h
stations_kept (x ∷ old) [] h = absurd h
stations_kept (x ∷ old) (y ∷ now) h = ap (λ (s : Station). s ∷ stations_of now) h.0 ∙ ap (λ (ss : List Station). x.0 ∷ ss) (stations_kept old now h.2)

marks_with : (s t : Station) (o p : Option FeedEnd) (fs gs : List (Station × FeedEnd)) → t ≡ s → IsFlushed o p → map feed_identity gs ≡ map feed_identity fs → map feed_identity (with_feed t p gs) ≡ map feed_identity (with_feed s o fs)
marks_with s t None None fs gs e h k = k
marks_with s t None (Some g) fs gs e h k = absurd h
marks_with s t (Some f) None fs gs e h k = absurd h
marks_with s t (Some f) (Some g) fs gs e h k =
    ap (λ (u : Station). (u, (g.opening, g.number)) ∷ map feed_identity gs) e
    ∙ (ap (λ (o : Opening). (s, (o, g.number)) ∷ map feed_identity gs) h.0.0
    ∙ (ap (λ (n : ℕ). (s, (f.opening, n)) ∷ map feed_identity gs) h.0.1 ∙ ap (λ ms. feed_identity (s, f) ∷ ms) k))

pub marks_kept : (old now : List Place) → AreFlushed old now → map feed_identity (feeds_held now) ≡ map feed_identity (feeds_held old)
marks_kept [] [] h = refl
marks_kept [] (y ∷ now) h = absurd h
marks_kept (x ∷ old) [] h = absurd h
marks_kept (x ∷ old) (y ∷ now) h = marks_with x.0 y.0 x.1 y.1 (feeds_held old) (feeds_held now) h.0 h.1 (marks_kept old now h.2)

abbrev put_in : Option FeedEnd → List Item
put_in o = elim o as (λ _. List Item) [ None ↦ [] | Some f ↦ f.put ]

test_put : (b c : Bool) (f g : FeedEnd) (o p : Option FeedEnd) → c ≡ b → g.put ≡ f.put → put_in p ≡ put_in o → put_in (cond c (Some g) p) ≡ put_in (cond b (Some f) o)
test_put true c f g o p e h k = ap (λ x. put_in (cond x (Some g) p)) e ∙ h
test_put false c f g o p e h k = ap (λ x. put_in (cond x (Some g) p)) e ∙ k

put_with : (s t u : Station) (o p : Option FeedEnd) (fs gs : List (Station × FeedEnd)) → t ≡ s → IsFlushed o p → put_in (feed_at gs u) ≡ put_in (feed_at fs u)
    → put_in (feed_at (with_feed t p gs) u) ≡ put_in (feed_at (with_feed s o fs) u)
put_with s t u None None fs gs e h k = k
put_with s t u None (Some g) fs gs e h k = absurd h
put_with s t u (Some f) None fs gs e h k = absurd h
put_with s t u (Some f) (Some g) fs gs e h k = test_put (same_station s u) (same_station t u) f g (feed_at fs u) (feed_at gs u) (ap (λ (x : Station). same_station x u) e) h.1 k

pub put_kept : (old now : List Place) (u : Station) → AreFlushed old now → put_in (feed_at (feeds_held now) u) ≡ put_in (feed_at (feeds_held old) u)
put_kept [] [] u h = refl
put_kept [] (y ∷ now) u h = absurd h
put_kept (x ∷ old) [] u h = absurd h
put_kept (x ∷ old) (y ∷ now) u h = put_with x.0 y.0 u x.1 y.1 (feeds_held old) (feeds_held now) h.0 h.1 (put_kept old now u h.2)

-- no backlog is left

clear_with : (s : Station) (o : Option FeedEnd) (fs : List (Station × FeedEnd)) → IsClear o → AllByRecursion (λ (f : Station × FeedEnd). f.1.backlog ≡ []) fs
    → AllByRecursion (λ (f : Station × FeedEnd). f.1.backlog ≡ []) (with_feed s o fs)
clear_with s None fs h k = k
clear_with s (Some f) fs h k = (h, k)

with_clear : (s : Station) (o : Option FeedEnd) (fs : List (Station × FeedEnd)) → AllByRecursion (λ (f : Station × FeedEnd). f.1.backlog ≡ []) (with_feed s o fs)
    → IsClear o × AllByRecursion (λ (f : Station × FeedEnd). f.1.backlog ≡ []) fs
with_clear s None fs h = (tt, h)
with_clear s (Some f) fs h = (h.0, h.1)

pub held_clear : (ps : List Place) → AllByRecursion IsClearAt ps → AllByRecursion (λ (f : Station × FeedEnd). f.1.backlog ≡ []) (feeds_held ps)
held_clear [] h = tt
held_clear (p ∷ ps) h = clear_with p.0 p.1 (feeds_held ps) h.0 (held_clear ps h.1)

pub clear_held : (ps : List Place) → AllByRecursion (λ (f : Station × FeedEnd). f.1.backlog ≡ []) (feeds_held ps) → AllByRecursion IsClearAt ps
clear_held [] h = tt
clear_held (p ∷ ps) h = let w = with_clear p.0 p.1 (feeds_held ps) h in (w.0, clear_held ps w.1)

-- the ends of a worker
module _ (tap : Option (Station × TapEnd)) (old now : List Place) (e : WorkerEnds) (view : record { tap = tap; feeds = feeds_held old } ≡ e) (are : AreFlushed old now) where
  abbrev then : WorkerEnds
  then = record { tap = tap; feeds = feeds_held now }

  pub puts_stay : (s : Station) → put_at then s ≡ put_at e s
  puts_stay s = subst (λ (x : WorkerEnds). put_at then s ≡ put_at x s) view (put_kept old now s are)

  pub ends_stay : IsSameEnds e then
  ends_stay = subst (λ (x : WorkerEnds). IsSameEnds x then) view (record { feeds = marks_kept old now are; tap = refl })
