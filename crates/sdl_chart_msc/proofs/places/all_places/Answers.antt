use Rattle.std.proofs.Common.{ℕ, List, map}
use Rattle.sdl_chart_page.specs.declared.page.Row.{Row}
use Rattle.sdl_chart_msc.specs.declared.places.Place.{Place}
use Rattle.sdl_chart_msc.specs.Places.{places_at}
use Rattle.sdl_chart_msc.proofs.Gathered.{places_step}
use Rattle.sdl_chart_msc.proofs.places.all_places.Goals as goal

pub loop-index-preserved : goal.loop-index-preserved
loop-index-preserved g c =
    let places : ℕ → Row → List Place = places_at (map g.K.LogStore.events c.args.logs.now) in
    places_step places c.loop-index.index c.args.rows.now _ _ _ c.loop-index-test.true c.loop-index.invariant c.in_ok-add_row.ensures
