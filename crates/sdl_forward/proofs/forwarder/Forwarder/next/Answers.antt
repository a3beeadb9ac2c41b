use Rattle.std.proofs.Common.{◌≡◌, ap, subst}
use Rattle.sdl_routes.specs.declared.route.Hop.{Hop}
use Rattle.sdl_routes.specs.declared.route.Station.TheVariants.{Line}
use Rattle.sdl_forward.specs.Forwards.{Forwarding, next_station}
use Rattle.sdl_forward.proofs.Onward.{next_is}
use Rattle.sdl_forward.proofs.forwarder.Forwarder.next.Goals as goal

pub returns-clause-next : goal.returns-clause-next
returns-clause-next c =
    subst (λ (h : Hop). next_station c.args.routes.now (Line h) c.args.item.now ≡ c.next.result) (ap (λ (f : Forwarding). f.hop) c.self.view_is)
    (next_is c.args.routes.now (Line c.self.inside.hop) c.args.item.now c.next.result c.next.ensures.known c.next.ensures.unknown)
