use Rattle.std.proofs.Common.{◌≡◌, Some, ap, subst}
use Rattle.sdl_routes.specs.declared.route.Hop.{Hop}
use Rattle.sdl_routes.specs.declared.route.Station.TheVariants.{Line}
use Rattle.sdl_forward.specs.Forwards.{Forwarding, next_station}
use Rattle.sdl_forward.proofs.Sides.{filled_so, can_filled}
use Rattle.sdl_forward.proofs.forwarder.Forwarder.step_over.Goals as goal

pub put_from-requires-clause-can : goal.put_from-requires-clause-can
put_from-requires-clause-can g c =
    let q = g.Q.Queues.relations in
    let was = c.args.self.now in
    let to = c.in-Some-next.next in
    let fills = filled_so q was c.take_into.new.slot _ c.args.queues.now c.in-Some.item c.take_into.new.queues c.take_into.ensures.taken c.in-Some.is in
    let next = subst (λ (h : Hop). next_station c.args.routes.now (Line h) c.in-Some.item ≡ Some to) (ap (λ (f : Forwarding). f.hop) c.take_into.ensures.emptied) c.in-Some-next.ensures.next in
    can_filled q (Line was.hop) was.held c.args.queues.now c.in-Some.item c.take_into.new.queues fills to (c.requires c.in-Some.item to next)
