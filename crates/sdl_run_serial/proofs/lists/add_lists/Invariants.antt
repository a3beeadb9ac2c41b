use Rattle.std.proofs.Common.{◌≡◌, ◌+◌, ◌≤◌, ◌++◌, map, length, vec_capacity}
use Rattle.sdl_run_outcome.specs.Lists.{items_in}
use Rattle.sdl_run_serial.proofs.lists.add_lists.Given as goal

abbrev pub invariant-loop-rest : goal.invariant-loop-rest
invariant-loop-rest l =
    (map items_in l.lists.items ++ map (λ log. log.events) l.rest.items ≡ map items_in l.fn.lists.items ++ map (λ log. log.events) l.fn.logs.items)
    × (length l.lists.items + length l.rest.items ≤ vec_capacity l.lists)

abbrev pub decreases-loop-rest : goal.decreases-loop-rest
decreases-loop-rest l = length l.rest.items
