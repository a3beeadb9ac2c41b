use Rattle.std.proofs.Common.{take, sum_by, ◌≡◌, ◌≤◌}
use Rattle.sdl_instances_log.specs.Counts.{output_by, no_route_by}
use Rattle.sdl_instances_log.proofs.counts.numbers_of_outputs.Given as goal

abbrev pub invariant-loop-one : goal.invariant-loop-one
invariant-loop-one l =
    ((l.outputs ≡ sum_by output_by (take l.one-index l.done)) × (l.outputs ≤ l.one-index))
    × ((l.no_route ≡ sum_by no_route_by (take l.one-index l.done)) × (l.no_route ≤ l.one-index))
