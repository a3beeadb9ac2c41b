use Rattle.std.proofs.Common.{◌≡◌, ap, sym, ◌∙◌, arith}
use Rattle.sdl_transition_saves.specs.Saves.{holds}
use Rattle.sdl_instances_processes.specs.declared.found.Found.{Found}
use Rattle.sdl_instances_processes.proofs.Ports.{some_same, none_some}
use Rattle.sdl_instances_processes.proofs.Arrivals.{has_front, found_new}
use Rattle.sdl_instances_processes.proofs.found.earlier.Goals as goal

pub returns-else-other-this : goal.returns-else-other-this
returns-else-other-this c queues here h =
    let some = has_front c.args.queue.now.items c.in-Some.first c.in-Some.ensures.item in
    found_new (holds c.args.saved) queues c.args.place c.args.found c.in-Some.first.now some.0 h (here ∙ some.1) (sym c.has.ensures ∙ c.if-has.false)
    (λ f is.
    let same = ap (λ (x : Found). x.number) (some_same c.in-Some-found.other f (sym c.in-Some-found.is ∙ is)) in
    let less = c.if-other-this.false in
    omega (arith, same, less))

pub returns-in-None : goal.returns-in-None
returns-in-None c queues here h =
    let some = has_front c.args.queue.now.items c.in-Some.first c.in-Some.ensures.item in
    found_new (holds c.args.saved) queues c.args.place c.args.found c.in-Some.first.now some.0 h (here ∙ some.1) (sym c.has.ensures ∙ c.if-has.false)
    (λ f is. absurd (none_some f (sym c.in-None.is ∙ is)))
