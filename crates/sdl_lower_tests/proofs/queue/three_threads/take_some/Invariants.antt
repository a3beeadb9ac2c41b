use Rattle.sdl_queue.specs.Ends.{IsSameTap}
use Rattle.sdl_lower_tests.proofs.queue.three_threads.take_some.Given as goal

abbrev pub invariant-loop : goal.invariant-loop
invariant-loop g l = IsSameTap l.fn.tap l.tap
