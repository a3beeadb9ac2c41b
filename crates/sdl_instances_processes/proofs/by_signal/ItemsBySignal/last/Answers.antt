use Rattle.std.proofs.Common.{◌<◌, List, length, sym, ◌∙◌, subst, deque_items, deque_len}
use Rattle.sdl_signal.specs.declared.values.Item.{Item}
use Rattle.sdl_instances_processes.proofs.Arrivals.{has_back, none_latest, latest}
use Rattle.sdl_instances_processes.proofs.by_signal.ItemsBySignal.last.Goals as goal

pub unreachable-requires : goal.unreachable-requires
unreachable-requires c =
    let i = c.self.inside in
    none_latest deque_items i.queues.items i.all i.next c.self.invariant.0 c.self.invariant.1 c.as_slice.result.now c.as_slice.ensures.value c.in_default.ensures
    (subst (λ (l : List Item). 0 < length l) (sym c.self.view_is) c.requires)

pub returns : goal.returns
returns c before item is =
    let i = c.self.inside in
    let old = c.index.result.now in
    let some = has_back old.items (deque_len old) c.in-Some-back.arrival old.ok.0 c.in-Some-back.ensures.item in
    latest deque_items i.queues.items i.all i.next c.self.invariant.0 c.self.invariant.1 c.as_slice.result.now c.as_slice.ensures.value c.in-Some.found old some.0 c.in-Some-back.arrival.now c.in-Some.ensures c.index.ensures some.1 before item (c.self.view_is ∙ is)
