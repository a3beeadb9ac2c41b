use Rattle.std.proofs.Common.{◌≡◌, take}
use Rattle.sdl_chart_drawing.specs.Traffic.{outputs_of}
use Rattle.sdl_chart_drawing.proofs.traffic.outputs_of.Given as goal

abbrev pub invariant-loop-index : goal.invariant-loop-index
invariant-loop-index g l = l.outputs.items ≡ outputs_of g.K.LogStore.events l.lists l.first (take l.index l.rows)
