use Rattle.std.proofs.Common.{◌+◌, length, arith}
use Rattle.sdl_run_driver.proofs.Rooms.{come_over, fewer_by_one}
use Rattle.sdl_run_serial.proofs.Begins.{room_for}
use Rattle.sdl_run_settling.proofs.back.take_forwarders.Goals as goal

pub loop-rest-preserved : goal.loop-rest-preserved
loop-rest-preserved c =
    let inv = c.loop-rest.invariant in
    let rest = c.loop-rest.rest.items in
    let fewer = c.take_front-thread.new.list.items in
    let one = fewer_by_one c.take_front-thread.result rest fewer c.take_front-thread.ensures in
    record {
      forwarder_room = c.put_last.ensures.room (length fewer) (room_for c.loop-rest.forwarders (length fewer + 1) (length rest) (omega (arith, one)) inv.forwarder_room);
      end_room = c.put_behind.ensures.room (length fewer) (room_for c.loop-rest.ends (length fewer + 1) (length rest) (omega (arith, one)) inv.end_room);
      all = come_over (λ t. t.forwarder) c.loop-rest.forwarders.items c.put_last.new.list.items _ c.take_front-thread.result rest fewer c.take_front-thread.ensures c.put_last.ensures.items inv.all;
      all_ends = come_over (λ t. t.ends) c.loop-rest.ends.items c.put_behind.new.list.items _ c.take_front-thread.result rest fewer c.take_front-thread.ensures c.put_behind.ensures.items inv.all_ends;
    }
