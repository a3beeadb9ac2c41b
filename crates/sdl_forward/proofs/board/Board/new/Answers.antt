use Rattle.std.proofs.Common.{◌≡◌, List, map, sym, ap, ◌∙◌, subst}
use Rattle.sdl_signal.specs.declared.values.Item.{Item}
use Rattle.sdl_routes.specs.declared.route.Station.{Station}
use Rattle.sdl_routes.specs.Routes.{EachOnce}
use Rattle.sdl_queue.specs.declared.rest.Rest.{Rest}
use Rattle.sdl_forward.specs.Boards.{stations_of, waiting, lists_of, AreAllStations}
use Rattle.sdl_forward.specs.Serials.{AreSerial}
use Rattle.sdl_forward.proofs.Entries.{stations-lists}
use Rattle.sdl_forward.proofs.Fresh.{empty_queue, stations_fresh, serial_fresh, waiting_fresh}
use Rattle.sdl_forward_opening.proofs.Opened.{order_once}
use Rattle.sdl_forward.proofs.board.Board.new.Goals as goal

pub of-requires-clause-once : goal.of-requires-clause-once
of-requires-clause-once c =
    let ss : List Station = c.in_ok-stations.stations.items in
    let rests : List (Station × Rest) = c.in_ok-empty_queues.field-0.items in
    let are : rests ≡ map empty_queue ss = c.in_ok-empty_queues.ensures ∙ ap (map empty_queue) c.as_slice.ensures.value in
    subst EachOnce (sym (ap stations_of are ∙ stations_fresh ss)) (order_once ss c.in_ok-stations.ensures.order)

pub of-requires-clause-serial : goal.of-requires-clause-serial
of-requires-clause-serial c =
    let ss : List Station = c.in_ok-stations.stations.items in
    let rests : List (Station × Rest) = c.in_ok-empty_queues.field-0.items in
    let are : rests ≡ map empty_queue ss = c.in_ok-empty_queues.ensures ∙ ap (map empty_queue) c.as_slice.ensures.value in
    subst AreSerial (sym are) (serial_fresh ss)

pub returns-clause-stations : goal.returns-clause-stations
returns-clause-stations c =
    let ss : List Station = c.in_ok-stations.stations.items in
    let rests : List (Station × Rest) = c.in_ok-empty_queues.field-0.items in
    let are : rests ≡ map empty_queue ss = c.in_ok-empty_queues.ensures ∙ ap (map empty_queue) c.as_slice.ensures.value in
    subst (AreAllStations c.args.routes.now) (sym (ap stations_of c.of.ensures ∙ (stations-lists rests ∙ (ap stations_of are ∙ stations_fresh ss)))) c.in_ok-stations.ensures

pub returns-clause-empty : goal.returns-clause-empty
returns-clause-empty c =
    let ss : List Station = c.in_ok-stations.stations.items in
    let rests : List (Station × Rest) = c.in_ok-empty_queues.field-0.items in
    let are : rests ≡ map empty_queue ss = c.in_ok-empty_queues.ensures ∙ ap (map empty_queue) c.as_slice.ensures.value in
    λ s. ap (λ (es : List (Station × List Item)). waiting es s) (c.of.ensures ∙ ap lists_of are) ∙ waiting_fresh ss s
