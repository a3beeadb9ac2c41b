use Rattle.std.proofs.Common.{◌++◌, length, sym, ap, ◌∙◌, inl, arith}
use Rattle.rtrb.specs.Ring.{sent, received, known_items}
use Rattle.sdl_queue_ring.specs.Batches.{items_of}
use Rattle.sdl_queue_ring.proofs.Batches.{of_none, none_and, none_without}
use Rattle.sdl_queue_ring.proofs.ring.ring_open.Goals as goal

pub invariant_of-feed : goal.invariant_of-feed
invariant_of-feed c =
    (inl c.new-2.ensures.items, sym (ap length (none_and (sent c.in_ok-producer.producer) c.new-2.result.items c.in_ok-producer.ensures.producer.0 c.new-2.ensures.items)), omega arith)

pub invariant_of-tap : goal.invariant_of-tap
invariant_of-tap c =
    let t = none_without (received c.in_ok-producer.consumer) c.new-3.result.items c.in_ok-producer.ensures.consumer.0 in (
      ap (λ w. w ++ c.new-3.result.items) t ∙ c.new-3.ensures.items ∙ sym (of_none (received c.in_ok-producer.consumer) c.in_ok-producer.ensures.consumer.0),
      λ small. sym (ap length t),
    )

pub returns-clause-feed : goal.returns-clause-feed
returns-clause-feed c =
    (none_and (sent c.in_ok-producer.producer) c.new-2.result.items c.in_ok-producer.ensures.producer.0 c.new-2.ensures.items, c.new-2.ensures.items, c.in_ok-producer.ensures.producer.1)

pub returns-clause-tap : goal.returns-clause-tap
returns-clause-tap c = (
  none_without (received c.in_ok-producer.consumer) c.new-3.result.items c.in_ok-producer.ensures.consumer.0,
  ap (λ t. t ++ items_of (known_items c.in_ok-producer.consumer)) c.new-3.ensures.items ∙ of_none (known_items c.in_ok-producer.consumer) c.in_ok-producer.ensures.consumer.1,
)
