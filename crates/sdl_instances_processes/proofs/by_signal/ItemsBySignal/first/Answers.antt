use Rattle.std.proofs.Common.{map, ap, sym, ◌∙◌, deque_items}
use Rattle.sdl_transition_saves.specs.Saves.{holds}
use Rattle.sdl_instances_processes.specs.Ports.{next_in}
use Rattle.sdl_instances_processes.specs.Arrivals.{item_of, without}
use Rattle.sdl_instances_processes.proofs.Ports.{next_taken}
use Rattle.sdl_instances_processes.proofs.Arrivals.{has_front, none_first, found_first}
use Rattle.sdl_instances_processes.proofs.by_signal.ItemsBySignal.first.Goals as goal

pub returns-in_default : goal.returns-in_default
returns-in_default c =
    let i = c.self.inside in
    sym (none_first deque_items i.queues.items i.all i.next c.self.invariant.0 c.self.invariant.1 c.as_slice.result.now c.as_slice.ensures.value (holds c.args.saved) c.in_default.ensures)
    ∙ ap (next_in (holds c.args.saved)) c.self.view_is

pub returns : goal.returns
returns c =
    let i = c.self.inside in
    let old = c.index.result.now in
    let some = has_front old.items c.in-Some-front.arrival c.in-Some-front.ensures.item in
    let taken = found_first deque_items i.queues.items i.all i.next c.self.invariant.0 c.self.invariant.1 c.as_slice.result.now c.as_slice.ensures.value (holds c.args.saved) c.in-Some.found old c.in-Some-front.arrival.now some.0 c.in-Some.ensures c.index.ensures some.1 in
    sym (next_taken (holds c.args.saved) (map item_of i.all) c.in-Some-front.arrival.now.item (map item_of (without c.in-Some.found.place i.all)) taken)
    ∙ ap (next_in (holds c.args.saved)) c.self.view_is
