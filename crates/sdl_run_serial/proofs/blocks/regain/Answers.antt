use Rattle.std.proofs.Common.{◌+◌, ◌++◌, ◌∷◌, [], length, ap, ◌∙◌, arith}
use Rattle.sdl_block.specs.Workers.{behaviours_of}
use Rattle.sdl_run_driver.proofs.Rooms.{come_over, fewer_by_one}
use Rattle.sdl_run_serial.proofs.Begins.{room_for, none_left_of}
use Rattle.sdl_run_serial.proofs.blocks.regain.Goals as goal

pub put_last-requires : goal.put_last-requires
put_last-requires g c =
    let inv = c.loop-rest.invariant in
    let one = fewer_by_one c.take_first-worker.result c.loop-rest.rest.items c.take_first-worker.new.list.items c.take_first-worker.ensures in
    room_for c.loop-rest.parts 1 (length c.loop-rest.rest.items) (omega (arith, one)) inv.room

pub loop-rest-preserved : goal.loop-rest-preserved
loop-rest-preserved g c =
    let inv = c.loop-rest.invariant in
    let w = c.take_first-worker.result in
    let rest = c.loop-rest.rest.items in
    let fewer = c.take_first-worker.new.list.items in
    let one = fewer_by_one w rest fewer c.take_first-worker.ensures in
    let same = c.into_parts-core.ensures.parts in
    let mine = c.into_parts-mine.ensures.parts in
    record {
      room = c.put_last.ensures.room (length fewer) (room_for c.loop-rest.parts (length fewer + 1) (length rest) (omega (arith, one)) inv.room);
      all = come_over behaviours_of c.loop-rest.parts.items c.put_last.new.list.items _ w rest fewer c.take_first-worker.ensures
          (c.put_last.ensures.items ∙ ap (λ p. c.loop-rest.parts.items ++ p ∷ []) (mine ∙ same)) inv.all;
      more = λ m h. c.put_last.ensures.room (length fewer + m) (room_for c.loop-rest.parts (length fewer + m + 1) (length rest + m) (omega (arith, one)) (inv.more m h));
    }

pub returns-clause-parts : goal.returns-clause-parts
returns-clause-parts g c = none_left_of behaviours_of c.loop-rest.parts.items _ c.loop-rest.rest.items (omega (arith, c.loop-rest-test.false, c.len.ensures)) c.loop-rest.invariant.all

pub returns-clause-room : goal.returns-clause-room
returns-clause-room g c = λ m h. room_for c.loop-rest.parts m (length c.loop-rest.rest.items + m) (omega arith) (c.loop-rest.invariant.more m h)
