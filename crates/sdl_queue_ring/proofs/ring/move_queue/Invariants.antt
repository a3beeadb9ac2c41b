use Rattle.std.proofs.Common.{◌≡◌, ◌+◌, ◌++◌}
use Rattle.std.specs.VecDeque.{deque_len, deque_capacity}
use Rattle.sdl_queue_ring.proofs.ring.move_queue.Given as goal

abbrev pub invariant-loop : goal.invariant-loop
invariant-loop l =
    (l.items.items ++ l.from.items ≡ l.fn.items.items ++ l.fn.from.items)
    × (l.counter + deque_len l.from ≡ deque_len l.fn.from)
    × (deque_len l.items ≡ deque_len l.fn.items + l.counter)
    × (deque_capacity l.items ≡ deque_capacity l.fn.items)
