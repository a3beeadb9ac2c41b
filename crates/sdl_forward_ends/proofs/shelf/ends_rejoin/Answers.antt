use Rattle.std.proofs.Common.{length, ap, arith}
use Rattle.sdl_forward_ends.proofs.Rejoins.{begins, goes_on, ends, at_first}
use Rattle.sdl_forward_ends.proofs.shelf.ends_rejoin.Goals as goal

pub loop-slots-init : goal.loop-slots-init
loop-slots-init g c =
    let inv = c.shelf.invariant in
    record {
      underway = begins c.args.ends.items c.shelf.inside.slots.items c.shelf.inside.rests.items c.args.shelf c.shelf.view_is inv.1 inv.0 c.requires.once c.requires.all c.requires.room;
      room = let none = ap length inv.1 in let few = inv.2 in omega (arith, none, few, c.shelf.inside.rests.ok.0);
    }

pub rejoin_at-rest-requires-clause-empty : goal.rejoin_at-rest-requires-clause-empty
rejoin_at-rest-requires-clause-empty g c = (at_first c.args.ends.items _ c.loop-slots.slots.items c.take_first-slot.new.list.items c.take_first-slot.result c.loop-slots.rests.items c.loop-slots.ends.items c.take_first-slot.ensures c.loop-slots.invariant.underway).0

pub rejoin_at-rest-requires-clause-whole : goal.rejoin_at-rest-requires-clause-whole
rejoin_at-rest-requires-clause-whole g c = (at_first c.args.ends.items _ c.loop-slots.slots.items c.take_first-slot.new.list.items c.take_first-slot.result c.loop-slots.rests.items c.loop-slots.ends.items c.take_first-slot.ensures c.loop-slots.invariant.underway).1

pub rejoin_at-rest-requires-clause-room : goal.rejoin_at-rest-requires-clause-room
rejoin_at-rest-requires-clause-room g c = (at_first c.args.ends.items _ c.loop-slots.slots.items c.take_first-slot.new.list.items c.take_first-slot.result c.loop-slots.rests.items c.loop-slots.ends.items c.take_first-slot.ensures c.loop-slots.invariant.underway).2

pub put_last-requires : goal.put_last-requires
put_last-requires g c =
    let cut = ap length c.take_first-slot.ensures in
    let room = c.loop-slots.invariant.room in
    omega (arith, cut, room)

pub loop-slots-smaller : goal.loop-slots-smaller
loop-slots-smaller g c = let cut = ap length c.take_first-slot.ensures in omega (arith, cut)

pub loop-slots-preserved : goal.loop-slots-preserved
loop-slots-preserved g c =
    let cut = ap length c.take_first-slot.ensures in
    let room = c.loop-slots.invariant.room in
    record {
      underway = goes_on c.args.ends.items _ c.take_first-slot.result c.take_first-slot.new.list.items c.loop-slots.rests.items c.put_last.new.list.items c.loop-slots.ends.items c.rejoin_at-rest.new.ends.items
          c.rejoin_at-rest.result (at_first c.args.ends.items _ c.loop-slots.slots.items c.take_first-slot.new.list.items c.take_first-slot.result c.loop-slots.rests.items c.loop-slots.ends.items c.take_first-slot.ensures c.loop-slots.invariant.underway).3 c.rejoin_at-rest.ensures.rejoined c.rejoin_at-rest.ensures.others c.put_last.ensures.items;
      room = c.put_last.ensures.room (length c.take_first-slot.new.list.items) (omega (arith, cut, room));
    }

pub returns : goal.returns
returns g c =
    ends c.args.ends.items _ c.loop-slots.slots.items c.loop-slots.rests.items c.loop-slots.ends.items (let l = c.len.ensures in let t = c.loop-slots-test.false in omega (arith, l, t, c.loop-slots.slots.ok.0)) c.loop-slots.invariant.underway
