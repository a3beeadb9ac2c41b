use Rattle.std.proofs.Common.{◌≡◌, ◌<◌, ◌≤◌, List, length, vec_len, Some, slice_get, slice_index_or, ap, sym, ◌∙◌, subst, arith}
use Rattle.std.proofs.lemmas.Option.{slice_get-get_or}
use Rattle.sdl_forward_opening.specs.Stations.{AreAllStations}
use Rattle.sdl_forward_opening.specs.Puts.{puts_at}
use Rattle.sdl_forward_opening.specs.Workers.{workers_in}
use Rattle.sdl_forward_opening.proofs.Laid.{HasTap, each_length}
use Rattle.sdl_forward_opening.proofs.Laying.{lays_none}
use Rattle.sdl_forward_opening.proofs.Opened.{taker_at, lays_on, all_once, opened}
use Rattle.sdl_forward_opening.proofs.opening.ends_open.Goals as goal

pub loop-station-init : goal.loop-station-init
loop-station-init g c =
    lays_none (puts_at c.args.checked.now c.args.routes.now) (workers_in c.args.checked.now) c.len.result c.in_ok-shares.shares.items c.new-shelf.result
    (let a : length c.in_ok-workers.workers.items ≡ length (workers_in c.args.checked.now) = ap length (c.in_ok-workers.ensures.workers ∙ ap workers_in c.structure-structure.ensures.structure) in let b : c.len.result ≡ vec_len c.in_ok-workers.workers = c.len.ensures in let d = c.in_ok-workers.workers.ok.0 in omega (arith, a, b, d)) c.in_ok-shares.ensures c.new-shelf.ensures

pub open_station-requires-clause-taker : goal.open_station-requires-clause-taker
open_station-requires-clause-taker g c =
    let stations = c.as_slice-station-items.result.now in
    taker_at c.args.checked.now c.args.routes.now c.structure-structure.ensures.is_structure c.requires c.routes_are_short.ensures.short stations
    (subst (AreAllStations c.args.routes.now) (sym c.as_slice-station-items.ensures.value) c.in_ok-stations.ensures) c.loop-station.station-index _ _
    (slice_get-get_or stations c.loop-station.station-index _ c.loop-station-test.true) (c.as_slice-in-loop-station.ensures.value ∙ (c.in_ok-workers.ensures.workers ∙ ap workers_in c.structure-structure.ensures.structure))

pub open_station-requires-clause-shares : goal.open_station-requires-clause-shares
open_station-requires-clause-shares g c =
    each_length (HasTap _) (workers_in c.args.checked.now) c.loop-station.shares.items c.loop-station.invariant.tap
    ∙ ap length (sym (c.as_slice-in-loop-station.ensures.value ∙ (c.in_ok-workers.ensures.workers ∙ ap workers_in c.structure-structure.ensures.structure)))

pub loop-station-preserved : goal.loop-station-preserved
loop-station-preserved g c =
    let stations = c.as_slice-station-items.result.now in
    lays_on c.args.checked.now c.args.routes.now c.structure-structure.ensures.is_structure c.requires c.routes_are_short.ensures.short stations
    (subst (AreAllStations c.args.routes.now) (sym c.as_slice-station-items.ensures.value) c.in_ok-stations.ensures) c.loop-station.station-index _ _ c.as_slice.result.now c.structure-structure.result.now _ c.loop-station.shares.items
    c.open_station.new.shares.items c.loop-station.shelf c.open_station.new.shelf
    (slice_get-get_or stations c.loop-station.station-index _ c.loop-station-test.true) (c.as_slice-in-loop-station.ensures.value ∙ (c.in_ok-workers.ensures.workers ∙ ap workers_in c.structure-structure.ensures.structure))
    (c.as_slice.ensures.value ∙ (c.in_ok-workers.ensures.workers ∙ ap workers_in c.structure-structure.ensures.structure)) (c.as_slice-in-loop-station-2.ensures.value ∙ c.in_ok-marks.ensures) c.structure-structure.ensures.structure c.loop-station.invariant c.in_ok-open_station.ensures

pub put_together-requires : goal.put_together-requires
put_together-requires g c =
    all_once c.args.checked.now c.args.routes.now c.structure-structure.ensures.is_structure c.requires c.routes_are_short.ensures.short c.as_slice-station-items.result.now
    (subst (AreAllStations c.args.routes.now) (sym c.as_slice-station-items.ensures.value) c.in_ok-stations.ensures) c.loop-station.station-index c.loop-station-test.false c.loop-station.shares.items c.loop-station.shelf c.loop-station.invariant

pub returns : goal.returns
returns g c =
    opened c.args.checked.now c.args.routes.now c.structure-structure.ensures.is_structure c.requires c.routes_are_short.ensures.short c.as_slice-station-items.result.now
    (subst (AreAllStations c.args.routes.now) (sym c.as_slice-station-items.ensures.value) c.in_ok-stations.ensures) c.loop-station.station-index c.loop-station-test.false c.loop-station.shares.items c.loop-station.shelf c.loop-station.invariant
    c.in_ok-ends.ends.items c.in_ok-ends.ensures
