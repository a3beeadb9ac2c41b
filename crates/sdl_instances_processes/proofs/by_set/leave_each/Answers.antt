use Rattle.std.proofs.Common.{◌<◌, length, map, slice_set, ap, sym, subst, ◌∙◌, arith}
use Rattle.std.specs.List.{AllByRecursion}
use Rattle.std.proofs.lemmas.List.{length-map, map-set, with_items_is}
use Rattle.std.proofs.lemmas.List.Edits.{map_over_more}
use Rattle.std.proofs.Math.ListN.{get_or-map}
use Rattle.sdl_instances_processes.specs.Places.{left}
use Rattle.sdl_instances_processes.proofs.SetPlaces.{HasRoomFor, items_of, all_at, all_set}
use Rattle.sdl_instances_processes.proofs.by_set.leave_each.Goals as goal

pub loop-list-preserved : goal.loop-list-preserved
loop-list-preserved c =
    let old = c.args.lists.now.items in
    let items = c.loop-list.list-items in
    let i = c.loop-list.list-index in
    let item = c.list-item.result in
    let new = c.leave.new.places in
    let same = ap length c.deref_mut-list-items.ensures.value in
    let long = c.loop-list.auto.list-items in
    let all = length-map old items_of in
    let within : i < length items = omega (arith, c.loop-list-test.true, long) in
    let room_left = c.leave.ensures.room in (
      map-set items_of items i new
          ∙ ap (slice_set (map items_of items) i) (c.leave.ensures.items ∙ ap (λ v. left c.args.gone (items_of v)) (sym c.list-item.is))
          ∙ map_over_more (left c.args.gone) (map items_of old) (map items_of items) i (items_of item) (omega (arith, c.loop-list-test.true, same, all)) c.loop-list.invariant.0
          (ap items_of c.list-item.is ∙ sym (get_or-map items_of items i item)),
      λ room h.
          let was = all_at (HasRoomFor room) items i item (c.loop-list.invariant.1 room h) within in
          all_set (HasRoomFor room) items i new (c.loop-list.invariant.1 room h) (omega (arith, was, room_left.0, room_left.1)),
    )

pub returns-clause-room : goal.returns-clause-room
returns-clause-room c room h =
    let same = ap length c.deref_mut-list-items.ensures.value in
    let long = c.loop-list.auto.list-items in
    let len = c.args.lists.now.ok.0 in
    subst (AllByRecursion (HasRoomFor room)) (sym (with_items_is c.args.lists.now c.loop-list.list-items (omega (arith, same, long, len)))) (c.loop-list.invariant.1 room h)
