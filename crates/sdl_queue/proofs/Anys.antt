-- The ends of a queue or of a ring, put together again.
use Rattle.std.proofs.Common.{◌≡◌, ℕ, ◌+◌, ◌<◌, List, [], ◌∷◌, ◌++◌, map, refl, ap, sym, ◌∙◌, inl, arith}
use Rattle.std.specs.List.{AllByRecursion, range_with_len}
use Rattle.sdl_signal.specs.declared.values.Item.{Item}
use Rattle.sdl_queue_ring.specs.RingEnds.{RingTapEnd, RingAccount}
use Rattle.sdl_queue.specs.declared.rule.Tagged.{Tagged}
use Rattle.sdl_queue.specs.declared.rest.Rest.TheVariants.{Ruled, Ring}
use Rattle.sdl_queue.specs.declared.any.TapKind.TheVariants as tap
use Rattle.sdl_queue.specs.DelayLine.{items_by, AreOfFeeders, HasNumber, IsDelayLine}
use Rattle.sdl_queue.specs.Ends.{Opening, OfQueue, OfRing, IsOfQueue, FeedEnd, TapEnd, Account, fresh_feed, fresh_feeds, put_of, put_list}
use Rattle.sdl_queue.specs.Any.{queue_feed, tap_end}
use Rattle.sdl_queue.specs.Rest.{tag, tags, ring_account, IsRestOf, AreRejoinedAs}
use Rattle.sdl_queue.proofs.Puts.{every-append}

each_fresh : (o : Opening) (ks : List ℕ) → map queue_feed (map (fresh_feed o) ks) ≡ map (fresh_feed o) ks
each_fresh o [] = refl
each_fresh o (k ∷ ks) = ap (λ fs. fresh_feed o k ∷ fs) (each_fresh o ks)

pub fresh_queue : (o : Opening) (n : ℕ) → map queue_feed (fresh_feeds o n) ≡ fresh_feeds o n
fresh_queue o n = each_fresh o (range_with_len 0 n)

pub own : (xs : List Item) → items_by 0 (tags xs) ≡ xs
own [] = refl
own (x ∷ xs) = ap (λ ys. x ∷ ys) (own xs)

numbered : (xs : List Item) → AllByRecursion (λ (t : Tagged). t.feeder < 1) (tags xs)
numbered [] = tt
numbered (x ∷ xs) = (omega arith, numbered xs)

pub ring_line : (r : RingAccount) → r.put ≡ r.taken ++ r.left → IsDelayLine 1 (put_list 0 r.put ∷ []) (tags r.taken) (tags r.left)
ring_line r line = (
  every-append (λ (t : Tagged). t.feeder < 1) (tags r.taken) (tags r.left) (numbered r.taken) (numbered r.left),
  λ f less. inl (let e : 0 ≡ f = omega (arith, less) in e),
  (line ∙ (ap (λ xs. xs ++ r.left) (sym (own r.taken)) ∙ ap (λ xs. items_by 0 (tags r.taken) ++ xs) (sym (own r.left))), tt),
)

pub ring_rejoined : (feeds : List FeedEnd) (t : RingTapEnd) (r : RingAccount) → put_list 0 r.put ∷ [] ≡ map put_of feeds → r.taken ≡ t.taken → r.put ≡ r.taken ++ r.left
    → AreRejoinedAs feeds (tap_end (tap.Ring t)) (Ring r)
ring_rejoined feeds t r puts taken line = (ring_account r, (r, refl, refl), refl, puts, ap tags taken, ring_line r line)

pub queue_rest : (o : Opening) (a : Account) → IsOfQueue o → IsRestOf o a (Ruled a)
queue_rest (OfQueue o) a is = refl
queue_rest (OfRing o) a is = absurd is

pub queue_rejoined : (feeds : List FeedEnd) (t : TapEnd) (a : Account) → IsOfQueue t.opening → (a.feeders ≡ t.feeders) × (a.puts ≡ map put_of feeds) × (a.taken ≡ t.taken) → IsDelayLine a.feeders a.puts a.taken a.left
    → AreRejoinedAs feeds t (Ruled a)
queue_rejoined feeds t a is same line = (a, queue_rest t.opening a is, same.0, same.1, same.2, line)
