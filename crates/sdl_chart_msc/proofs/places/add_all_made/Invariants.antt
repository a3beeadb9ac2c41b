use Rattle.std.proofs.Common.{◌≡◌, ◌++◌, flat_map, take}
use Rattle.sdl_chart_msc.specs.Places.{made_in}
use Rattle.sdl_chart_msc.proofs.places.add_all_made.Given as goal

abbrev pub invariant-loop-done : goal.invariant-loop-done
invariant-loop-done l = l.places.items ≡ l.fn.places.items ++ flat_map (made_in l.row) (take l.done-index l.all)
