-- What a put at a station puts there, and that the other feeds stay.
use Rattle.std.proofs.Common.{◌≡◌, ◌≢◌, ℕ, List, [], Option, Some, None, slice_set, slice_index_or, refl, ap, sym, ◌∙◌, subst}
use Rattle.sdl_signal.specs.declared.values.Item.{Item}
use Rattle.sdl_routes.specs.declared.route.Station.{Station}
use Rattle.sdl_queue.specs.Ends.{FeedEnd, TapEnd, IsSameFeed}
use Rattle.sdl_queue_ring.specs.RingEnds.{IsPutFrom}
use Rattle.sdl_forward_ends.specs.declared.index.Index.{Index}
use Rattle.sdl_forward_ends.specs.Stations.{stations_of}
use Rattle.sdl_forward_ends.specs.Ends.{WorkerEnds, feed_at, put_at, IsSameEnds}
use Rattle.sdl_forward_ends.specs.Index.{place_of, IsIndexOf}
use Rattle.sdl_forward_ends.specs.FeedsLeft.{Place, feeds_held}
use Rattle.sdl_forward_ends.proofs.FeedsLeft.{feed_is, feed_now, feed_elsewhere, marks_now}

-- what was put there since
abbrev put_of_feed : Option FeedEnd → List Item
put_of_feed o = elim o as (λ _. List Item) [ None ↦ [] | Some f ↦ f.put ]

put_now : (fs gs : List (Station × FeedEnd)) (s : Station) (f g : FeedEnd) (slot left : Option Item) → feed_at fs s ≡ Some f → feed_at gs s ≡ Some g
    → IsPutFrom slot left f.put g.put → IsPutFrom slot left (put_of_feed (feed_at fs s)) (put_of_feed (feed_at gs s))
put_now fs gs s f g slot left e h p =
    subst (λ (o : Option FeedEnd). IsPutFrom slot left (put_of_feed (feed_at fs s)) (put_of_feed o)) (sym h)
    (subst (λ (o : Option FeedEnd). IsPutFrom slot left (put_of_feed o) g.put) (sym e) p)

-- a feed that puts, at its place among the others
module _ (index : Index) (tap : Option (Station × TapEnd)) (ps : List Place) (now : WorkerEnds) (view : record { tap = tap; feeds = feeds_held ps } ≡ now) (s : Station) (k : ℕ)
    (ok : IsIndexOf index (stations_of ps)) (found : place_of index s ≡ Some k) (p : Place) (read : p ≡ slice_index_or ps k p) (f g : FeedEnd) (has : p.1 ≡ Some f) where
  abbrev then : WorkerEnds
  then = record { tap = tap; feeds = feeds_held (slice_set ps k (p.0, Some g)) }

  pub others : (t : Station) → t ≢ s → put_at then t ≡ put_at now t
  others t n = subst (λ (e : WorkerEnds). put_at then t ≡ put_at e t) view (ap put_of_feed (feed_elsewhere index ps s k ok found p read (Some g) t n))

  pub marks : IsSameFeed f g → IsSameEnds now then
  marks same = subst (λ (e : WorkerEnds). IsSameEnds e then) view (record { feeds = marks_now index ps s k ok found p read f g has same; tap = refl })

  pub puts : (slot left : Option Item) → IsPutFrom slot left f.put g.put → IsPutFrom slot left (put_at now s) (put_at then s)
  puts slot left h =
      subst (λ (e : WorkerEnds). IsPutFrom slot left (put_at e s) (put_at then s)) view
      (put_now (feeds_held ps) (feeds_held (slice_set ps k (p.0, Some g))) s f g slot left (feed_is index ps s k ok found p read ∙ has) (feed_now index ps s k ok found p read (Some g)) h)
