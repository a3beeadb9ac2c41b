-- What is left of a queue, of any kind.
use Rattle.std.specs.Prelude.{◌≡◌, List, [], ◌∷◌, map}
use Rattle.sdl_signal.specs.declared.values.Item.{Item}
use Rattle.sdl_queue_ring.specs.RingEnds.{RingAccount}
use Rattle.sdl_queue.specs.declared.rule.Tagged.{Tagged}
use Rattle.sdl_queue.specs.declared.rest.Rest.{Rest}
use Rattle.sdl_queue.specs.declared.rest.Rest.TheVariants.{Serial, Ruled, Ring}
use Rattle.sdl_queue.specs.DelayLine.{IsDelayLine}
use Rattle.sdl_queue.specs.Ends.{Opening, OfQueue, OfRing, FeedEnd, TapEnd, Account, items_of, put_list, put_of}

-- the items that are left, from the front
abbrev pub left_in : Rest → List Item
left_in (Serial items) = items
left_in (Ruled account) = items_of account.left
left_in (Ring account) = account.left

-- the items of the only feeder of a ring, whose number is 0
abbrev pub tag : Item → Tagged
tag i = record { feeder = 0; item = i; pad = 0; more_pad = 0 }

abbrev pub tags : List Item → List Tagged
tags items = map tag items

-- the account of a ring, in the words of a queue's: it has one feeder
abbrev pub ring_account : RingAccount → Account
ring_account r = record { feeders = 1; puts = put_list 0 r.put ∷ []; taken = tags r.taken; left = tags r.left }

-- what was put together again of this opening: of a queue's the queue with this account, of a ring's the ring
abbrev pub IsRestOf : Opening → Account → Rest → Type 0
IsRestOf (OfQueue o) a rest = rest ≡ Ruled a
IsRestOf (OfRing o) a rest = (r : RingAccount) × (a ≡ ring_account r) × (rest ≡ Ring r)

-- what these ends were put together to: what each feed put, what the tap took, and what is left, are a delay line
abbrev pub AreRejoinedAs : List FeedEnd → TapEnd → Rest → Type 0
AreRejoinedAs feeds tap rest =
    (a : Account) × IsRestOf tap.opening a rest × (a.feeders ≡ tap.feeders) × (a.puts ≡ map put_of feeds) × (a.taken ≡ tap.taken) × IsDelayLine a.feeders a.puts a.taken a.left
