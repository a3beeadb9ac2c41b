use Rattle.std.proofs.Common.{◌≡◌, ◌+◌, ◌<◌, List, length, map, slice_set, ap, sym, ◌∙◌, subst, is_some, true≢false, deque_items, arith}
use Rattle.std.proofs.lemmas.List.{length-map}
use Rattle.sdl_signal.specs.declared.values.Item.{Item}
use Rattle.sdl_transition_saves.specs.Saves.{holds}
use Rattle.sdl_instances_processes.specs.declared.numbered.Numbered.{Numbered}
use Rattle.sdl_instances_processes.specs.Ports.{TakesOut, next_in}
use Rattle.sdl_instances_processes.specs.Arrivals.{item_of, without, AreBySignal, Rises}
use Rattle.sdl_instances_processes.proofs.Ports.{length_taken}
use Rattle.sdl_instances_processes.proofs.Arrivals.{none_first, found_first, found_within, left_queue, rises_without}
use Rattle.sdl_instances_processes.proofs.by_signal.ItemsBySignal.take_first.Goals as goal

pub unreachable-requires : goal.unreachable-requires
unreachable-requires c =
    let i = c.self.inside in
    let none = none_first deque_items i.queues.items i.all i.next c.self.invariant.0 c.self.invariant.1 c.as_slice.result.now c.as_slice.ensures.value (holds c.args.saved) c.in_default.ensures in
    let some = ap (λ (l : List Item). is_some (next_in (holds c.args.saved) l)) c.self.view_is ∙ c.requires in
    true≢false (sym some ∙ ap is_some none)

pub invariant_of-self : goal.invariant_of-self
invariant_of-self c =
    let i = c.self.inside in
    let qs = i.queues.items in
    let place = c.in-Some.found.place in
    let a = c.in-Some-pop_front.arrival in
    let old = c.index_mut.result.now in
    let new = c.pop_front.new.self in
    let saved = holds c.args.saved in
    let slice = c.as_slice.result.now in
    let within = found_within deque_items qs i.all i.next c.self.invariant.0 c.self.invariant.1 slice c.as_slice.ensures.value saved c.in-Some.found c.in-Some.ensures in
    let taken = found_first deque_items qs i.all i.next c.self.invariant.0 c.self.invariant.1 slice c.as_slice.ensures.value saved c.in-Some.found old a new.items c.in-Some.ensures c.index_mut.ensures.value c.in-Some-pop_front.ensures.items in
    let long = length_taken saved (map item_of i.all) a.item (map item_of (without place i.all)) taken in
    let all = length-map i.all item_of in
    let rest = length-map (without place i.all) item_of in
    let left = ap length c.leave.ensures in
    let was = c.self.invariant.2 in
    let few = c.self.invariant.3 in (
      subst (AreBySignal (map deque_items (slice_set qs place new))) (sym c.leave.ensures)
          (left_queue deque_items qs i.all i.next c.self.invariant.0 c.self.invariant.1 place a old new within c.index_mut.ensures.value c.in-Some-pop_front.ensures.items),
      subst (λ (l : List Numbered). Rises l i.next) (sym c.leave.ensures) (rises_without place i.next i.all c.self.invariant.1),
      omega (arith, long, all, rest, left, was),
      omega (arith, few),
    )

pub returns : goal.returns
returns c =
    let i = c.self.inside in
    let place = c.in-Some.found.place in
    let a = c.in-Some-pop_front.arrival in
    let taken = found_first deque_items i.queues.items i.all i.next c.self.invariant.0 c.self.invariant.1 c.as_slice.result.now c.as_slice.ensures.value (holds c.args.saved) c.in-Some.found c.index_mut.result.now a c.pop_front.new.self.items c.in-Some.ensures c.index_mut.ensures.value c.in-Some-pop_front.ensures.items in
    subst (λ (l : List Numbered). TakesOut (holds c.args.saved) c.args.self.now a.item (map item_of l)) (sym c.leave.ensures)
    (subst (λ (l : List Item). TakesOut (holds c.args.saved) l a.item (map item_of (without place i.all))) c.self.view_is taken)
