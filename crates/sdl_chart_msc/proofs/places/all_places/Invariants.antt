use Rattle.std.proofs.Common.{◌≡◌, take, map}
use Rattle.sdl_chart_text.specs.Rows.{gathered_from}
use Rattle.sdl_chart_msc.specs.Places.{places_at}
use Rattle.sdl_chart_msc.proofs.places.all_places.Given as goal

abbrev pub invariant-loop-index : goal.invariant-loop-index
invariant-loop-index g l = l.places.items ≡ gathered_from (places_at (map g.K.LogStore.events l.logs)) 0 (take l.index l.rows)
