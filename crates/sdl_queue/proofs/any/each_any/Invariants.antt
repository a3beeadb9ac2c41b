use Rattle.std.proofs.Common.{◌≡◌, map}
use Rattle.sdl_queue.specs.Any.{queue_feed}
use Rattle.sdl_queue.proofs.any.each_any.Given as goal

abbrev pub invariant-loop-feed : goal.invariant-loop-feed
invariant-loop-feed l = l.all.items ≡ map queue_feed l.yielded
