use Rattle.std.proofs.Common.{◌∙◌, List, ◌++◌, take, ap, sym, arith}
use Rattle.std.specs.List.{flat_map}
use Rattle.sdl_routes.specs.declared.route.TableRow.{TableRow}
use Rattle.sdl_routes.specs.declared.route.Station.{Station}
use Rattle.sdl_forward_opening.proofs.Collected.{stations_more, route_there}
use Rattle.sdl_forward_opening.proofs.stations.all_stations.Goals as goal

pub unreachable-requires : goal.unreachable-requires
unreachable-requires c =
    route_there c.args.routes.now c.loop-number.number (omega (arith, c.len-number-end.ensures.value)) (sym c.in_default.ensures.value)

pub loop-number-preserved : goal.loop-number-preserved
loop-number-preserved c =
    let more = stations_more c.args.routes.now c.loop-number.number c.in-Some.route.now c.in-Some.ensures.value in
    c.in_ok-extend_from_slice.ensures.items ∙ ap (λ (ss : List Station). ss ++ c.as_slice.result.now) c.loop-number.invariant ∙ (ap (λ (ss : List Station). flat_map (λ (row : TableRow). row.route.stations.items) (take c.loop-number.number c.args.routes.now) ++ ss) c.as_slice.ensures.value ∙ sym more)
