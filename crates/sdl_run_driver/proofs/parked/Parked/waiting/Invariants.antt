use Rattle.std.proofs.Common.{◌≡◌, ◌+◌, drop, sum_by}
use Rattle.sdl_run_driver.proofs.Waits.{at_block}
use Rattle.sdl_run_driver.proofs.parked.Parked.waiting.Given as goal

abbrev pub invariant-loop-number : goal.invariant-loop-number
invariant-loop-number g l = l.waiting + sum_by at_block (drop l.number l.self.system.blocks.items) ≡ sum_by at_block l.self.system.blocks.items
