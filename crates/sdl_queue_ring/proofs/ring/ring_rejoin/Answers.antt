use Rattle.std.proofs.Common.{◌≡◌, ◌≤◌, ◌-◌, List, ◌++◌, length, sym, ap, ◌∙◌, subst}
use Rattle.rtrb.specs.Ring.{received, sent, known_items}
use Rattle.sdl_queue_ring.specs.declared.ring.Batch.{Batch}
use Rattle.sdl_queue_ring.specs.Batches.{items_of, without, IsCount}
use Rattle.sdl_queue_ring.proofs.Batches.{delayed, both_counted}
use Rattle.sdl_queue_ring.proofs.ring.ring_rejoin.Goals as goal

line : (c : goal.After-slots_beside) → items_of (sent c.slots_beside.new.producer) ++ c.feed.inside.backlog.items ≡ without (items_of (received c.slots_beside.new.self)) c.tap.inside.rest.items ++ (c.tap.inside.rest.items ++ items_of (known_items c.slots_beside.new.self) ++ c.feed.inside.backlog.items)
line c =
    let rest = c.tap.inside.rest.items in
    delayed (received c.slots_beside.new.self) (known_items c.slots_beside.new.self) (sent c.slots_beside.new.producer) rest c.feed.inside.backlog.items c.slots_beside.ensures.fifo
    (subst (λ (r : List Batch). without (items_of r) rest ++ rest ≡ items_of r) (sym c.slots_beside.ensures.looked.1) c.tap.invariant.0)

counts : (c : goal.After-slots_beside) → (c.tap.inside.count ≤ c.feed.inside.count) × (c.feed.inside.count - c.tap.inside.count ≡ length (c.tap.inside.rest.items ++ items_of (known_items c.slots_beside.new.self) ++ c.feed.inside.backlog.items))
counts c =
    let back = c.feed.inside.backlog.items in
    let rest = c.tap.inside.rest.items in
    both_counted (items_of (sent c.slots_beside.new.producer) ++ back) (without (items_of (received c.slots_beside.new.self)) rest) (rest ++ items_of (known_items c.slots_beside.new.self) ++ back) c.feed.inside.count c.tap.inside.count (line c)
    (c.feed.invariant.1 ∙ ap (λ (s : List Batch). length (items_of s ++ back)) (sym c.slots_beside.ensures.producer.1))
    c.feed.invariant.2
    (subst (λ (r : List Batch). IsCount c.tap.inside.count (length (without (items_of r) rest))) (sym c.slots_beside.ensures.looked.1) c.tap.invariant.1)

pub overflow_sub-result : goal.overflow_sub-result
overflow_sub-result c = (counts c).0

pub invariant_of-result : goal.invariant_of-result
invariant_of-result c = (c.slots_beside.ensures.fifo, (counts c).1)

pub returns-clause-delay_line : goal.returns-clause-delay_line
returns-clause-delay_line c = line c
