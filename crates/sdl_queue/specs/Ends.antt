-- What a contract sees of the ends of a queue.
use Rattle.std.specs.Prelude.{◌≡◌, ℕ, List, [], length, map, ⊤}
use Rattle.std.specs.List.{AllByRecursion, range_with_len}
use Rattle.sdl_signal.specs.declared.values.Item.{Item}
use Rattle.sdl_queue_ring.specs.RingEnds.{RingOpening}
use Rattle.sdl_queue.specs.declared.rule.Tagged.{Tagged}
use Rattle.sdl_queue.specs.declared.rule.PutList.{PutList}
use Rattle.sdl_queue.specs.DelayLine.{Covers}

-- which opening an end is of, of a queue or of a ring: no two that live at one time have the same
pub data Opening : Type 0 where
  OfQueue : ℕ × ℕ → Opening
  OfRing : RingOpening → Opening

-- it is a queue's
abbrev pub IsOfQueue : Opening → Type 0
IsOfQueue (OfQueue o) = ⊤
IsOfQueue (OfRing o) = ⊥

-- it is a ring's
abbrev pub IsOfRing : Opening → Type 0
IsOfRing (OfQueue o) = ⊥
IsOfRing (OfRing o) = ⊤

-- a feed: which opening it is of, its number there, what it has put, and which of that still waits for room (in a ring alone:
-- a queue has room for all)
pub record FeedEnd : Type 0 where
  pub opening : Opening
  pub number : ℕ
  pub put : List Item
  pub backlog : List Item

-- a tap: which opening it is of, how many feeders that has, and what was taken
pub record TapEnd : Type 0 where
  pub opening : Opening
  pub feeders : ℕ
  pub taken : List Tagged

-- a queue all of whose ends have come back: how many feeders it had, what each of them put, what was taken, what is left
pub record Account : Type 0 where
  pub feeders : ℕ
  pub puts : List PutList
  pub taken : List Tagged
  pub left : List Tagged

abbrev pub items_of : List Tagged → List Item
items_of things = map (λ t. t.item) things

abbrev pub put_list : ℕ → List Item → PutList
put_list f items = record { number = f; items = items }

-- what this feeder put
abbrev pub put_of : FeedEnd → PutList
put_of f = put_list f.number f.put

abbrev pub fresh_feed : Opening → ℕ → FeedEnd
fresh_feed o f = record { opening = o; number = f; put = []; backlog = [] }

-- the feeds of an opening before anything was put, by number
abbrev pub fresh_feeds : Opening → ℕ → List FeedEnd
fresh_feeds o feeders = map (fresh_feed o) (range_with_len 0 feeders)

-- They are all the ends of one opening, the feeds in any order: each feed is of the tap's opening; there are as many as it has
-- feeders; each feeder's is among them (so that each number stands there once, and no other).
abbrev pub AreAllEnds : List FeedEnd → TapEnd → Type 0
AreAllEnds feeds tap = AllByRecursion (λ f. f.opening ≡ tap.opening) feeds × (length feeds ≡ tap.feeders) × Covers tap.feeders (map put_of feeds)

-- it is the same feed, whatever it has put since: of the same opening, with the same number
abbrev pub IsSameFeed : FeedEnd → FeedEnd → Type 0
IsSameFeed f g = (g.opening ≡ f.opening) × (g.number ≡ f.number)

-- it is the same tap, whatever was taken since
abbrev pub IsSameTap : TapEnd → TapEnd → Type 0
IsSameTap t u = (u.opening ≡ t.opening) × (u.feeders ≡ t.feeders)
