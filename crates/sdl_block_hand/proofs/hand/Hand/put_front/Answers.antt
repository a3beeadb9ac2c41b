use Rattle.std.proofs.Common.{rules, ◌≡◌, ◌∷◌}
use Rattle.sdl_block_hand.proofs.Fronts.{first_so, front_routed}
use Rattle.sdl_block_hand.proofs.hand.Hand.put_front.Goals as goal

pub returns-in-None-clause-put : goal.returns-in-None-clause-put
returns-in-None-clause-put g c =
    let front : c.args.self.now.outgoing.items ≡ c.remove-item.result ∷ c.remove-item.new.self.items = search rules in
    let (row, there) = front_routed c.args.routes.now c.args.self.now.outgoing.items c.remove-item.result c.remove-item.new.self.items front c.requires.routed in
    (c.remove-item.result, c.in-Some.station, front, first_so _ c.in-Some.station row there c.in-Some.ensures.known, search rules)
