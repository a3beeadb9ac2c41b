use Rattle.std.proofs.Common.{◌+◌, length, arith}
use Rattle.sdl_run_driver.proofs.Rooms.{fewer_by_one}
use Rattle.sdl_run_serial.proofs.Begins.{one_over, room_for, none_left}
use Rattle.sdl_run_serial.proofs.blocks.take_all.Goals as goal

pub put_last-requires : goal.put_last-requires
put_last-requires g c =
    let inv = c.loop-rest.invariant in
    let one = fewer_by_one c.take_first-next.result c.loop-rest.rest.items c.take_first-next.new.list.items c.take_first-next.ensures in
    room_for c.loop-rest.list 1 (length c.loop-rest.rest.items) (omega (arith, one)) inv.room

pub loop-rest-preserved : goal.loop-rest-preserved
loop-rest-preserved g c =
    let inv = c.loop-rest.invariant in
    let x = c.take_first-next.result in
    let rest = c.loop-rest.rest.items in
    let fewer = c.take_first-next.new.list.items in
    let one = fewer_by_one x rest fewer c.take_first-next.ensures in
    record {
      room = c.put_last.ensures.room (length fewer) (room_for c.loop-rest.list (length fewer + 1) (length rest) (omega (arith, one)) inv.room);
      all = one_over c.loop-rest.list.items c.put_last.new.list.items _ x rest fewer c.take_first-next.ensures c.put_last.ensures.items inv.all;
    }

pub returns : goal.returns
returns g c = none_left c.loop-rest.list.items _ c.loop-rest.rest.items (omega (arith, c.loop-rest-test.false, c.len.ensures)) c.loop-rest.invariant.all
