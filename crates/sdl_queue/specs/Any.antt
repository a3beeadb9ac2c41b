-- What a contract sees of an end of either kind, of a queue or of a ring.
use Rattle.std.specs.Prelude.{[]}
use Rattle.sdl_queue.specs.declared.any.FeedKind.{FeedKind}
use Rattle.sdl_queue.specs.declared.any.FeedKind.TheVariants as feed
use Rattle.sdl_queue.specs.declared.any.TapKind.{TapKind}
use Rattle.sdl_queue.specs.declared.any.TapKind.TheVariants as tap
use Rattle.sdl_queue.specs.Ends.{OfRing, FeedEnd, TapEnd}
use Rattle.sdl_queue.specs.Rest.{tags}

-- a queue has room for all that is put
abbrev pub queue_feed : FeedEnd → FeedEnd
queue_feed f = record { opening = f.opening; number = f.number; put = f.put; backlog = [] }

abbrev pub feed_end : FeedKind → FeedEnd
feed_end (feed.Queue f) = queue_feed f
feed_end (feed.Ring f) = record { opening = OfRing f.opening; number = 0; put = f.put; backlog = f.backlog }

abbrev pub tap_end : TapKind → TapEnd
tap_end (tap.Queue t) = t
tap_end (tap.Ring t) = record { opening = OfRing t.opening; feeders = 1; taken = tags t.taken }
