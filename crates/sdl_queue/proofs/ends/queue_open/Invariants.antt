use Rattle.std.proofs.Common.{◌≡◌, []}
use Rattle.sdl_queue.specs.Ends.{fresh_feeds}
use Rattle.sdl_queue.proofs.ends.queue_open.Given as goal

abbrev pub invariant-loop-number : goal.invariant-loop-number
invariant-loop-number g l = (l.feeds.items ≡ fresh_feeds l.tap.opening l.number) × (l.tap.feeders ≡ l.number) × (l.tap.taken ≡ [])
