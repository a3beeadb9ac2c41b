use Rattle.std.proofs.Common.{◌≡◌, ◌+◌, ◌-◌, sum, take, length}
use Rattle.sdl_instances_processes.proofs.ready.seek.Given as goal

abbrev pub invariant-loop-at : goal.invariant-loop-at
invariant-loop-at l = sum (take l.at l.counts) + l.left ≡ sum (take l.start l.counts) + l.skip

abbrev pub decreases-loop-at : goal.decreases-loop-at
decreases-loop-at l = length l.counts - l.at
