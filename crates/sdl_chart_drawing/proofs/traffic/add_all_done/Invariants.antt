use Rattle.std.proofs.Common.{◌≡◌, ◌++◌, flat_map, take}
use Rattle.sdl_chart_drawing.specs.Traffic.{outputs_by}
use Rattle.sdl_chart_drawing.proofs.traffic.add_all_done.Given as goal

abbrev pub invariant-loop-done : goal.invariant-loop-done
invariant-loop-done l = l.outputs.items ≡ l.fn.outputs.items ++ flat_map (outputs_by l.number) (take l.done-index l.all)
