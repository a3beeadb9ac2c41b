use Rattle.std.proofs.Common.{◌≡◌, ◌+◌, [], ◌++◌, length, sym, ap, ◌∙◌, arith, append-nil}
use Rattle.std.proofs.lemmas.List.{nil_from_length}
use Rattle.rtrb.specs.Ring.{known_items}
use Rattle.sdl_queue_ring.proofs.Batches.{of_none, moved, length_of}
use Rattle.sdl_queue_ring.proofs.ring.move_ring.Goals as goal

pub push_back_reserved-requires : goal.push_back_reserved-requires
push_back_reserved-requires c =
    let n = length_of c.pop_known-first.result (known_items c.loop.consumer) (known_items c.pop_known-first.new.self) c.pop_known-first.ensures.received.1 in
    omega (arith, n, c.requires, c.loop.invariant.2, c.loop.invariant.3)

pub move_queue-requires : goal.move_queue-requires
move_queue-requires c =
    let n = length_of c.pop_known-first.result (known_items c.loop.consumer) (known_items c.pop_known-first.new.self) c.pop_known-first.ensures.received.1 in
    omega (arith, n, c.requires, c.loop.invariant.2, c.loop.invariant.3, c.push_back_reserved.ensures.len, c.push_back_reserved.ensures.capacity, c.pop_known-first.result.rest.ok.0)

pub loop-preserved : goal.loop-preserved
loop-preserved c =
    let left = known_items c.pop_known-first.new.self in
    let b = c.pop_known-first.result in
    let e = c.pop_known-first.ensures.received.1 in
    let n = length_of b (known_items c.loop.consumer) left e in
    let one : length (known_items c.loop.consumer) ≡ length left + 1 = ap length e ∙ omega arith in (
      moved c.loop.items.items c.push_back_reserved.new.self.items c.move_queue.new.items.items b (known_items c.loop.consumer) left e c.push_back_reserved.ensures.items c.move_queue.ensures.items ∙ c.loop.invariant.0,
      omega (arith, one, c.loop.invariant.1),
      omega (arith, n, c.loop.invariant.2, c.push_back_reserved.ensures.len, c.move_queue.ensures.len, b.rest.ok.0),
      c.move_queue.ensures.room ∙ c.push_back_reserved.ensures.capacity ∙ c.loop.invariant.3,
    )

none_known : (c : goal.After-loop) → known_items c.loop.consumer ≡ []
none_known c = nil_from_length (known_items c.loop.consumer) (omega (arith, c.loop.invariant.1, c.loop-test.false, c.cached_slots-end.ensures, c.loop.auto.counter-end))

pub returns-clause-items : goal.returns-clause-items
returns-clause-items c = sym (append-nil c.loop.items.items) ∙ ap (λ t. c.loop.items.items ++ t) (sym (of_none (known_items c.loop.consumer) (none_known c))) ∙ c.loop.invariant.0

pub returns-clause-len : goal.returns-clause-len
returns-clause-len c = omega (arith, ap length (of_none (known_items c.loop.consumer) (none_known c)), c.loop.invariant.2)
