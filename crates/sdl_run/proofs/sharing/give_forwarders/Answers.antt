use Rattle.std.proofs.Common.{◌+◌, length, ap, arith}
use Rattle.sdl_run_driver.proofs.Rooms.{fewer_by_one}
use Rattle.sdl_run_serial.proofs.Begins.{room_for}
use Rattle.sdl_run.proofs.Pairs.{gives_none, gives_one, gives_all}
use Rattle.sdl_run.proofs.sharing.give_forwarders.Goals as goal

pub take_front-own-requires : goal.take_front-own-requires
take_front-own-requires g c =
    let one = fewer_by_one c.take_front-forwarder.result c.loop-rest.rest.items c.take_front-forwarder.new.list.items c.take_front-forwarder.ensures in
    let some = c.loop-rest.invariant.enough in
    omega (arith, one, some)

pub put_last-requires : goal.put_last-requires
put_last-requires g c =
    let one = fewer_by_one c.take_front-forwarder.result c.loop-rest.rest.items c.take_front-forwarder.new.list.items c.take_front-forwarder.ensures in
    room_for c.loop-rest.workers 1 (length c.loop-rest.rest.items) (omega (arith, one)) c.loop-rest.invariant.room

pub loop-rest-preserved : goal.loop-rest-preserved
loop-rest-preserved g c =
    let inv = c.loop-rest.invariant in
    let rest = c.loop-rest.rest.items in
    let fewer = c.take_front-forwarder.new.list.items in
    let one = fewer_by_one c.take_front-forwarder.result rest fewer c.take_front-forwarder.ensures in
    let own = fewer_by_one c.take_front-own.result c.loop-rest.ends.items c.take_front-own.new.list.items c.take_front-own.ensures in
    let some = inv.enough in
    record {
      enough = omega (arith, one, own, some);
      room = c.put_last.ensures.room (length fewer) (room_for c.loop-rest.workers (length fewer + 1) (length rest) (omega (arith, one)) inv.room);
      given = gives_one _ _ rest fewer _ c.loop-rest.ends.items c.take_front-own.new.list.items _ c.loop-rest.workers.items c.put_last.new.list.items c.take_front-forwarder.result c.take_front-own.result
          c.take_front-forwarder.ensures c.take_front-own.ensures c.put_last.ensures.items inv.given;
    }

pub returns : goal.returns
returns g c = record { given = gives_all _ _ c.loop-rest.rest.items _ _ _ _ (omega (arith, c.loop-rest-test.false, c.len.ensures)) c.loop-rest.invariant.given }

pub loop-rest-init : goal.loop-rest-init
loop-rest-init g c =
    let same = c.from-rest.ensures.0 in
    let count = ap length same in
    record {
      enough = omega (arith, count, c.requires.enough);
      room = omega (arith, count, c.requires.room);
      given = gives_none _ _ _ _ _ same;
    }
