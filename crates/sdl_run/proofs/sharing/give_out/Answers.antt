use Rattle.std.proofs.Common.{length, ap, subst, ◌∙◌, arith}
use Rattle.sdl_run.specs.Sharing.{GivesOut}
use Rattle.sdl_run.proofs.Pairs.{gives_out, left_after}
use Rattle.sdl_run.proofs.sharing.give_out.Goals as goal

pub give_blocks-requires-clause-enough : goal.give_blocks-requires-clause-enough
give_blocks-requires-clause-enough g c =
    let same = ap length c.from-ends.ensures.0 in
    let count = c.requires.count in
    omega (arith, same, count)

pub give_blocks-requires-clause-room : goal.give_blocks-requires-clause-room
give_blocks-requires-clause-room g c = let room = c.requires.room in omega (arith, room)

pub take_front-own-requires : goal.take_front-own-requires
take_front-own-requires g c =
    let same = ap length c.from-ends.ensures.0 in
    let count = c.requires.count in
    let left = left_after _ _ _ _ _ _ c.give_blocks.ensures.given in
    omega (arith, same, count, left)

pub give_forwarders-requires-clause-enough : goal.give_forwarders-requires-clause-enough
give_forwarders-requires-clause-enough g c =
    let same = ap length c.from-ends.ensures.0 in
    let count = c.requires.count in
    let left = left_after _ _ _ _ _ _ c.give_blocks.ensures.given in
    let first = ap length c.take_front-own.ensures in
    omega (arith, same, count, left, first)

pub give_forwarders-requires-clause-room : goal.give_forwarders-requires-clause-room
give_forwarders-requires-clause-room g c = c.give_blocks.ensures.room (length c.args.forwarders.items) c.requires.room

pub returns : goal.returns
returns g c =
    let same = c.from-ends.ensures.0 in
    subst (λ es. GivesOut c.args.budget c.args.blocks.items c.args.forwarders.items es c.give_forwarders.new.workers.items c.take_front-own.result) same
    (gives_out c.args.budget c.args.blocks.items c.args.forwarders.items c.from-ends.result.items c.give_blocks.new.ends.items c.take_front-own.new.list.items c.give_forwarders.new.ends.items c.take_front-own.result
    c.args.workers.items c.give_blocks.new.workers.items c.give_forwarders.new.workers.items c.give_blocks.ensures.given c.take_front-own.ensures c.give_forwarders.ensures.given c.requires.empty (ap length same ∙ c.requires.count))
