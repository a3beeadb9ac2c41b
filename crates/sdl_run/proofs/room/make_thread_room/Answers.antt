use Rattle.std.proofs.Common.{arith, length}
use Rattle.sdl_run_driver.proofs.Rooms.{room_as}
use Rattle.sdl_run.proofs.room.make_thread_room.Goals as goal

pub returns : goal.returns
returns g c =
    let count = c.requires.blocks in
    let lines = c.len.ensures in
    record {
      opened = c.in_ok-opened.ensures;
      room = room_as c.in_ok-room.room c.args.blocks _ _ _ count (omega (arith, lines, count)) c.in_ok-room.ensures.room;
      room_empty = c.in_ok-room.ensures.empty;
      started_empty = c.in_ok-started.ensures.items;
      started = (let a = c.in_ok-started.ensures.len in let b = c.in_ok-started.ensures.capacity in omega (arith, a, b, count));
    }
