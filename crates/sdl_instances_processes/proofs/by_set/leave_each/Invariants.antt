use Rattle.std.proofs.Common.{◌≡◌, ℕ, ◌++◌, map, take, drop}
use Rattle.std.specs.List.{AllByRecursion}
use Rattle.sdl_instances_processes.specs.Places.{left}
use Rattle.sdl_instances_processes.proofs.SetPlaces.{HasRoomFor, items_of}
use Rattle.sdl_instances_processes.proofs.by_set.leave_each.Given as goal

abbrev pub invariant-loop-list : goal.invariant-loop-list
invariant-loop-list l =
    (map items_of l.list-items ≡ map (left l.gone) (take l.list-index (map items_of l.fn.lists.items)) ++ drop l.list-index (map items_of l.fn.lists.items))
    × ((room : ℕ) → AllByRecursion (HasRoomFor room) l.fn.lists.items → AllByRecursion (HasRoomFor room) l.list-items)
