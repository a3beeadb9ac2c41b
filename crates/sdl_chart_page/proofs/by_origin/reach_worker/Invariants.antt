use Rattle.std.proofs.Common.{◌≡◌, ◌-◌, ◌+◌, map, length}
use Rattle.sdl_signal.specs.declared.values.Origin.{Origin}
use Rattle.sdl_chart_page.specs.Origins.{value_at}
use Rattle.sdl_chart_page.proofs.by_origin.reach_worker.Given as goal

abbrev pub invariant-loop-alloc : goal.invariant-loop-alloc
invariant-loop-alloc g l = (o : Origin) → value_at (map (λ v. v.items) l.lists.items) o ≡ value_at (map (λ v. v.items) l.fn.lists.items) o

abbrev pub decreases-loop-alloc : goal.decreases-loop-alloc
decreases-loop-alloc g l = l.worker + 1 - length l.lists.items
