use Rattle.std.proofs.Common.{◌∙◌, List, get_or, slice_get, ap, arith}
use Rattle.sdl_routes.specs.declared.route.Hop.{Hop}
use Rattle.sdl_forward.specs.Forwards.{Forwarding}
use Rattle.sdl_run_driver.proofs.PassedOver.{no_lower}
use Rattle.sdl_run_driver.proofs.driver.Driver.next_forwarder.Goals as goal

pub returns-clause-empty : goal.returns-clause-empty
returns-clause-empty g c k f from less at =
    let fs = c.args.self.now.forwarders.items in
    let first : Forwarding = c.index-forwarders-from.result in
    let all = c.as_slice-forwarders.ensures.value in
    let low = no_lower fs c.requires.order c.args.from k f first from at in
    let is = ap (λ (x : Forwarding). x.hop.channel.0) (c.index-forwarders-from.is ∙ ap (λ (xs : List Forwarding). get_or xs c.args.from first) all) in
    let hop = ap (λ (h : Hop). h.channel.0) c.hop.ensures in
    c.next_busy-busy.ensures f.hop (omega arith) (c.next_of.ensures.lower k f from less (ap (λ (xs : List Forwarding). slice_get xs k) all ∙ at))
