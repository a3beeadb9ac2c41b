use Rattle.sdl_queue.specs.Ends.{IsSameFeed}
use Rattle.sdl_lower_tests.proofs.queue.ends.put_all.Given as goal

abbrev pub invariant-loop-number : goal.invariant-loop-number
invariant-loop-number g l = IsSameFeed l.fn.feed l.feed
