use Rattle.std.proofs.Common.{◌≡◌, ◌+◌, ◌++◌, length}
use Rattle.std.specs.VecDeque.{deque_len, deque_capacity}
use Rattle.rtrb.specs.Ring.{known_items}
use Rattle.sdl_queue_ring.specs.Batches.{items_of}
use Rattle.sdl_queue_ring.proofs.ring.move_ring.Given as goal

abbrev pub invariant-loop : goal.invariant-loop
invariant-loop l =
    (l.items.items ++ items_of (known_items l.consumer) ≡ l.fn.items.items ++ items_of (known_items l.fn.consumer))
    × (l.counter + length (known_items l.consumer) ≡ length (known_items l.fn.consumer))
    × (deque_len l.items + length (items_of (known_items l.consumer)) ≡ deque_len l.fn.items + length (items_of (known_items l.fn.consumer)))
    × (deque_capacity l.items ≡ deque_capacity l.fn.items)
