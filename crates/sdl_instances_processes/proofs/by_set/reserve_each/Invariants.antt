use Rattle.std.proofs.Common.{◌≡◌, map, take}
use Rattle.std.specs.List.{AllByRecursion}
use Rattle.sdl_instances_processes.proofs.SetPlaces.{HasRoomFor, items_of}
use Rattle.sdl_instances_processes.proofs.by_set.reserve_each.Given as goal

abbrev pub invariant-loop-list : goal.invariant-loop-list
invariant-loop-list l =
    (map items_of l.list-items ≡ map items_of l.fn.lists.items)
    × AllByRecursion (HasRoomFor l.room) (take l.list-index l.list-items)
