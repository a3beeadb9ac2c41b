use Rattle.std.proofs.Common.{◌≡◌, ◌+◌, ◌++◌, map, length}
use Rattle.std.specs.Arc.{arc_value}
use Rattle.std.specs.VecDeque.{deque_len, deque_capacity}
use Rattle.crossbeam_queue.specs.SegTies.{IsSegPassOf}
use Rattle.sdl_queue.specs.Rule.{IsWhole, tap_of, left_of}
use Rattle.sdl_queue.proofs.ends.Rejoined.into_serial.Given as goal

abbrev pub invariant-loop : goal.invariant-loop
invariant-loop g l =
    let left = left_of (tap_of l.pass.me.view.client) in
    IsSegPassOf (arc_value l.line).queue l.pass × IsWhole l.pass.me.view.client
    × (l.items.items ++ map (λ x. x.item) left ≡ map (λ x. x.item) l.fn.self.left)
    × (deque_capacity l.items ≡ l.len)
    × (deque_len l.items ≡ l.counter)
    × (l.counter + length left ≡ l.len)
