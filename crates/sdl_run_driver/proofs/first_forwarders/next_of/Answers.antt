use Rattle.std.proofs.Common.{ap, arith}
use Rattle.sdl_routes.specs.declared.route.Hop.{Hop}
use Rattle.sdl_forward.specs.Forwards.{Forwarding}
use Rattle.sdl_run_driver.proofs.PassedOver.{before_last}
use Rattle.sdl_run_driver.proofs.first_forwarders.next_of.Goals as goal

pub returns-then-last-channel-clause-lower : goal.returns-then-last-channel-clause-lower
returns-then-last-channel-clause-lower c k f from less at =
    let fs = c.args.forwarders.now in
    let last : Forwarding = c.index-forwarders-place.result in
    let is = ap (λ (x : Forwarding). x.hop.channel.0) c.index-forwarders-place.is in
    let hop = ap (λ (h : Hop). h.channel.0) c.hop.ensures in
    let lower = c.if-last-channel.true in
    before_last fs c.requires.order c.args.place c.args.channel.0 k f last less c.if-place-forwarders.true (omega arith) at
