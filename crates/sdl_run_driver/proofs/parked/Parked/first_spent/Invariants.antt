use Rattle.std.proofs.Common.{◌≡◌, ℕ, ◌<◌, slice_get, Some}
use Rattle.sdl_instances.specs.Run.{turns}
use Rattle.sdl_block_hand.specs.Work.{Working}
use Rattle.sdl_run_driver.specs.Stopped.{site_of_parked}
use Rattle.sdl_run_driver.proofs.parked.Parked.first_spent.Given as goal

abbrev pub invariant-loop-number : goal.invariant-loop-number
invariant-loop-number g l = (n : ℕ) (w : Working) → n < l.number → slice_get (site_of_parked l.self).blocks n ≡ Some w → turns w.core.log ≡ l.self.system.budget → ⊥
