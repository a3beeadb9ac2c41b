use Rattle.std.proofs.Common.{ℕ, List, map, arith}
use Rattle.sdl_chart_page.specs.declared.page.Row.{Row}
use Rattle.sdl_chart_drawing.specs.declared.traffic.Arrival.{Arrival}
use Rattle.sdl_chart_drawing.specs.Traffic.{arrival_at, listed}
use Rattle.sdl_chart_drawing.proofs.RowByRow.{rows_next}
use Rattle.sdl_chart_drawing.proofs.traffic.arrivals_of.Goals as goal

pub loop-index-preserved : goal.loop-index-preserved
loop-index-preserved g c =
    let v = c.args.lists.now in
    let f : ℕ → Row → List Arrival = λ m r. listed (arrival_at (map g.K.LogStore.events v.logs.now) v.received.now m r) in
    rows_next f 0 c.loop-index.index c.loop-index.index c.args.rows.now _ _ _ c.loop-index-test.true (omega arith) c.loop-index.invariant c.in_ok-add_arrival.ensures
