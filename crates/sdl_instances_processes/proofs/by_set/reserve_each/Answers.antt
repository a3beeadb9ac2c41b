use Rattle.std.proofs.Common.{length, map, slice_set, ap, ◌∙◌, arith}
use Rattle.std.proofs.lemmas.List.{length-set, with_items_is}
use Rattle.std.proofs.Math.Seq.{map-set_same}
use Rattle.sdl_instances_processes.proofs.SetPlaces.{HasRoomFor, items_of, all_written}
use Rattle.sdl_instances_processes.proofs.by_set.reserve_each.Goals as goal

pub returns-in_err-reserve-clause-same : goal.returns-in_err-reserve-clause-same
returns-in_err-reserve-clause-same c =
    let items = c.loop-list.list-items in
    let i = c.loop-list.list-index in
    let new = c.reserve.new.self in
    let same = ap length c.deref_mut-list-items.ensures.value in
    let long = c.loop-list.auto.list-items in
    let len = c.args.lists.now.ok.0 in
    let kept = length-set items i new in
    ap (map items_of) (with_items_is c.args.lists.now (slice_set items i new) (omega (arith, same, long, len, kept)))
    ∙ map-set_same items_of items i new c.list-item.result c.reserve.ensures.items
    ∙ c.loop-list.invariant.0

pub loop-list-preserved : goal.loop-list-preserved
loop-list-preserved c =
    let items = c.loop-list.list-items in
    let i = c.loop-list.list-index in
    let new = c.reserve.new.self in
    let room = c.in_ok-reserve.ensures.ok in
    let len = new.ok.0 in (
      map-set_same items_of items i new c.list-item.result c.reserve.ensures.items ∙ c.loop-list.invariant.0,
      all_written (HasRoomFor c.args.room) items i new c.loop-list.invariant.1 (omega (arith, room, len)),
    )
