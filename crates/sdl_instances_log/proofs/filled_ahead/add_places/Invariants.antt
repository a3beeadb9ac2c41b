use Rattle.std.proofs.Common.{◌≡◌, ◌+◌, length, take, vec_capacity}
use Rattle.sdl_instances_log.proofs.filled_ahead.add_places.Given as goal

abbrev pub invariant-loop : goal.invariant-loop
invariant-loop l =
    (take (length l.fn.places.items) l.places.items ≡ l.fn.places.items)
    × (length l.places.items ≡ length l.fn.places.items + l.counter)
    × (vec_capacity l.places ≡ vec_capacity l.fn.places)
