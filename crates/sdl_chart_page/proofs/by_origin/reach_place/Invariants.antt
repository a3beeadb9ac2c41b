use Rattle.std.proofs.Common.{◌-◌, ◌+◌, length}
use Rattle.sdl_chart_page.specs.Origins.{IsLonger}
use Rattle.sdl_chart_page.proofs.by_origin.reach_place.Given as goal

abbrev pub invariant-loop-value : goal.invariant-loop-value
invariant-loop-value g l = IsLonger l.value l.fn.list.items l.list.items

abbrev pub decreases-loop-value : goal.decreases-loop-value
decreases-loop-value g l = l.place + 1 - length l.list.items
