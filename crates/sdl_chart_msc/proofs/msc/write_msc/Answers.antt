use Rattle.std.proofs.Common.{map}
use Rattle.sdl_chart_msc.proofs.Whole.{is_msc}
use Rattle.sdl_chart_msc.proofs.msc.write_msc.Goals as goal

pub returns-in-Ok-write_whole-clause-written : goal.returns-in-Ok-write_whole-clause-written
returns-in-Ok-write_whole-clause-written g c =
    let v = c.args.chart.now in
    is_msc v.structure.now v.routes.now v.states.now (map g.K.LogStore.events v.lists.now.logs.now) v.lists.now.received.now v.lists.now.put.now v.page.now
    _ _ c.rows-rows.result.now c.in-Ok-places_of.places.items c.as_slice.result.now _ _
    c.in-Ok.ensures.above c.in-Ok.ensures.fates c.rows-rows.ensures c.as_slice.ensures.value c.in-Ok-places_of.ensures c.in-Ok-write_whole.ensures
