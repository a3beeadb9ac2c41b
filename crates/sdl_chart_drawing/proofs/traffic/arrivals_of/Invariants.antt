use Rattle.std.proofs.Common.{◌≡◌, take}
use Rattle.sdl_chart_drawing.specs.Traffic.{arrivals_of}
use Rattle.sdl_chart_drawing.proofs.traffic.arrivals_of.Given as goal

abbrev pub invariant-loop-index : goal.invariant-loop-index
invariant-loop-index g l = l.arrivals.items ≡ arrivals_of g.K.LogStore.events l.lists 0 (take l.index l.rows)
