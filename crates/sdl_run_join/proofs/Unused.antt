-- Queues whose ends come back unused are empty; and ends that were used worker by worker.
use Rattle.std.proofs.Common.{ℕ, suc, List, [], ◌∷◌, length, map, ◌≡◌, Some, slice_get, refl, ap, sym, ◌∙◌, subst, arith}
use Rattle.std.proofs.lemmas.Bool.{cond_both}
use Rattle.std.specs.List.{AllByRecursion, range_with_len}
use Rattle.sdl_signal.specs.declared.values.Item.{Item}
use Rattle.sdl_routes.specs.declared.route.Station.{Station}
use Rattle.sdl_routes.specs.declared.route.Station.TheVariants.{Line, Inlet, Outlet}
use Rattle.sdl_queue.specs.declared.rest.Rest.{Rest}
use Rattle.sdl_queue.specs.declared.rest.Rest.TheVariants.{Ruled, Ring}
use Rattle.sdl_queue.specs.declared.rule.PutList.{PutList}
use Rattle.sdl_queue.specs.Rest.{left_in, IsRestOf}
use Rattle.sdl_queue.specs.DelayLine.{Covers, IsEachPut}
use Rattle.sdl_queue.specs.Ends.{Opening, OfQueue, OfRing, FeedEnd, TapEnd, Account, put_of, put_list, fresh_feed, fresh_feeds}
use Rattle.sdl_forward_ends.specs.Stations.{same_station}
use Rattle.sdl_forward_ends.specs.Ends.{WorkerEnds, IsSameEnds, column, IsWholeAt, AreAllEndsOf, IsRejoinedAt, AreRejoined}
use Rattle.sdl_forward_opening.specs.Opens.{IsLineOfOne, IsOpenedAs, IsFreshAt, fresh_tap}
use Rattle.sdl_forward_opening.specs.Used.{AreUsed}
use Rattle.sdl_forward.specs.Boards.{waiting, lists_of}

-- the feeds of an opening have put nothing
unput : (o : Opening) (ns : List ℕ) → IsEachPut (map put_of (map (fresh_feed o) ns)) [] []
unput o [] = tt
unput o (n ∷ ns) = (refl, unput o ns)

first_or : TapEnd → List TapEnd → TapEnd
first_or t [] = t
first_or t (u ∷ us) = u

-- what was opened as a ring has one feeder
one_feeder : (s : Station) (n : ℕ) → IsLineOfOne s n → n ≡ 1
one_feeder (Line h) n e = e
one_feeder (Inlet b) n e = absurd e
one_feeder Outlet n e = absurd e

abbrev unused_with : ℕ → List PutList → Account
unused_with n puts = record { feeders = n; puts = puts; taken = []; left = [] }

-- the rest of a queue or of a ring of whose ends none was used
unused : (o : Opening) (s : Station) (n : ℕ) (feeds : List FeedEnd) → IsOpenedAs o s n → feeds ≡ fresh_feeds o n → (r : Rest) × (left_in r ≡ []) × IsRestOf o (unused_with n (map put_of feeds)) r
unused (OfQueue o) s n feeds kind are = (Ruled (unused_with n (map put_of feeds)), refl, refl)
unused (OfRing o) s n feeds kind are =
    let one : n ≡ 1 = one_feeder s n (kind.0 tt) in
    let puts : map put_of feeds ≡ put_list 0 [] ∷ [] = ap (map put_of) (are ∙ ap (fresh_feeds (OfRing o)) one) in
    (Ring (record { put = []; taken = []; left = [] }), refl, (record { put = []; taken = []; left = [] }, ap (λ m. unused_with m (map put_of feeds)) one ∙ ap (unused_with 1) puts, refl))

-- a queue of whose ends none was used
rejoined_at : (all : List WorkerEnds) (s : Station) → IsFreshAt all s → IsWholeAt s all → (r : Rest) × (left_in r ≡ []) × IsRejoinedAt all s r
unfolding first_or
rejoined_at all s (o, n, feeds, one, kind) (t, is, whole) =
    let rest = unused o s n (column s all) kind feeds in
    let same : t ≡ fresh_tap o n = ap (first_or t) (sym is ∙ one) in
    let covers : Covers n (map put_of (column s all)) = subst (λ (u : TapEnd). Covers u.feeders (map put_of (column s all))) same whole.2 in
    let none : IsEachPut (map put_of (column s all)) [] [] = subst (λ (fs : List FeedEnd). IsEachPut (map put_of fs) [] []) (sym feeds) (unput o (range_with_len 0 n)) in
    (rest.0, rest.1, (fresh_tap o n, one, (unused_with n (map put_of (column s all)), rest.2, refl, refl, refl, (tt, covers, none))))

pub rejoined_all : (all : List WorkerEnds) (stations : List Station) → AllByRecursion (IsFreshAt all) stations → AreAllEndsOf stations all
    → (rests : List (Station × Rest)) × AreRejoined all stations rests × ((s : Station) → waiting (lists_of rests) s ≡ [])
rejoined_all all [] fresh whole = ([], tt, λ s. refl)
rejoined_all all (s ∷ stations) fresh whole =
    let here = rejoined_at all s fresh.0 whole.0 in
    let more = rejoined_all all stations fresh.1 whole.1 in (
      (s, here.0) ∷ more.0,
      (refl, here.2, more.1),
      λ t. cond_both (same_station s t) (left_in here.0) (waiting (lists_of more.0) t) (λ (xs : List Item). xs ≡ []) (λ e. here.1) (λ e. more.2 t),
    )

-- where each worker has its own ends still, they all have
pub used_each : (all now : List WorkerEnds) → length now ≡ length all → ((k : ℕ) (e f : WorkerEnds) → slice_get all k ≡ Some e → slice_get now k ≡ Some f → IsSameEnds e f) → AreUsed all now
used_each [] [] count same = tt
used_each [] (f ∷ now) count same = absurd (omega (arith, count))
used_each (e ∷ all) [] count same = absurd (omega (arith, count))
used_each (e ∷ all) (f ∷ now) count same = (same 0 e f refl refl, used_each all now (omega (arith, count)) (λ k x y at there. same (suc k) x y at there))
