use Rattle.std.proofs.Common.{◌≡◌, ℕ, [], length, map, get_or, deque_items}
use Rattle.sdl_instances_processes.proofs.by_signal.extend.Given as goal

abbrev pub invariant-loop : goal.invariant-loop
invariant-loop l =
    ((n : ℕ) → get_or (map deque_items l.queues.items) n [] ≡ get_or (map deque_items l.fn.queues.items) n [])
    × (length l.queues.items ≡ l.counter)
