use Rattle.std.proofs.Common.{◌≡◌, ◌+◌, ◌<◌, ◌++◌, ◌∷◌, [], List, length, map, slice_set, refl, ap, sym, ◌∙◌, subst, deque_items, arith}
use Rattle.std.proofs.lemmas.List.{length_push}
use Rattle.sdl_signal.specs.declared.values.Item.{Item}
use Rattle.sdl_instances_processes.specs.declared.numbered.Numbered.{Numbered}
use Rattle.sdl_instances_processes.specs.Arrivals.{AreBySignal, Rises}
use Rattle.sdl_instances_processes.proofs.Ports.{some_same}
use Rattle.sdl_instances_processes.proofs.Arrivals.{pushed_queue, rises_push}
use Rattle.sdl_instances_processes.proofs.by_signal.ItemsBySignal.receive_from.Goals as goal

pub invariant_of-self-2 : goal.invariant_of-self-2
invariant_of-self-2 c =
    let i = c.self.inside in
    let qs = c.make_room.new.queues.items in
    let place = c.in-Some.item.signal.id.0 in
    let a : Numbered = record { number = i.next; item = c.in-Some-take.item } in
    let old = c.index_mut.result.now in
    let new = c.push_back_reserved.new.self in
    let within : place < length qs = c.in_ok-make_room.ensures.within in
    let is = ap (λ (x : Item). x.signal.id.0) (some_same c.in-Some-take.item c.in-Some.item (sym c.in-Some-take.is ∙ c.take.ensures.value ∙ c.in-Some.is)) in
    let long : length c.push.new.self ≡ length i.all + 1 = ap length c.push.ensures ∙ length_push i.all a in
    let was = c.self.invariant.2 in
    let few = c.self.invariant.3 in (
      subst (AreBySignal (map deque_items (slice_set qs place new))) (sym c.push.ensures)
          (pushed_queue deque_items qs i.all i.next (λ s. c.make_room.ensures.same s ∙ c.self.invariant.0 s) c.self.invariant.1 place a old new within is c.index_mut.ensures.value c.push_back_reserved.ensures.items),
      subst (λ (l : List Numbered). Rises l (i.next + 1)) (sym c.push.ensures) (rises_push i.next i.all a refl c.self.invariant.1),
      omega (arith, long, was),
      omega (arith, few),
    )
