use Rattle.std.proofs.Common.{◌≡◌, ℕ, [], length, map, get_or}
use Rattle.sdl_instances_processes.proofs.SetPlaces.{items_of}
use Rattle.sdl_instances_processes.proofs.by_set.extend.Given as goal

abbrev pub invariant-loop : goal.invariant-loop
invariant-loop l =
    ((n : ℕ) → get_or (map items_of l.lists.items) n [] ≡ get_or (map items_of l.fn.lists.items) n [])
    × (length l.lists.items ≡ l.counter)
