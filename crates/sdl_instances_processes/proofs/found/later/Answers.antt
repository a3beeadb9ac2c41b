use Rattle.std.proofs.Common.{◌≡◌, ◌-◌, ap, sym, ◌∙◌, subst, deque_len, arith}
use Rattle.std.specs.Slice.{IsGetResult}
use Rattle.std.proofs.lemmas.List.{same_from_push}
use Rattle.sdl_instances_processes.specs.declared.numbered.Numbered.{Numbered}
use Rattle.sdl_instances_processes.specs.Arrivals.{IsLastOf}
use Rattle.sdl_instances_processes.proofs.Ports.{none_some}
use Rattle.sdl_instances_processes.proofs.Arrivals.{has_back, no_back, last_same, last_stays, last_new}
use Rattle.sdl_instances_processes.proofs.found.later.Goals as goal

pub returns-in_default : goal.returns-in_default
returns-in_default c queues here h =
    last_same queues c.args.place c.args.found h (here ∙ no_back c.args.queue.now.items (deque_len c.args.queue.now - 1) (subst (IsGetResult c.args.queue.now.items 0 (deque_len c.args.queue.now - 1)) c.in_default.is c.back.ensures.item))

pub returns-then-this-other : goal.returns-then-this-other
returns-then-this-other c queues here h =
    let some = has_back c.args.queue.now.items (deque_len c.args.queue.now) c.in-Some.last c.args.queue.now.ok.0 c.in-Some.ensures.item in
    last_stays queues c.args.place c.in-Some-found.other (subst (IsLastOf queues c.args.place) c.in-Some-found.is h)
    (λ more b queue.
    let equal = ap (λ (x : Numbered). x.number) (same_from_push some.0 more c.in-Some.last.now b (sym some.1 ∙ sym here ∙ queue)).1 in
    let less = c.if-this-other.true in
    omega (arith, equal, less))

pub returns-in-None : goal.returns-in-None
returns-in-None c queues here h =
    let some = has_back c.args.queue.now.items (deque_len c.args.queue.now) c.in-Some.last c.args.queue.now.ok.0 c.in-Some.ensures.item in
    last_new queues c.args.place c.args.found some.0 c.in-Some.last.now h (here ∙ some.1) (λ f is. absurd (none_some f (sym c.in-None.is ∙ is)))
