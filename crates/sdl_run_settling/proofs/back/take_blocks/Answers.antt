use Rattle.std.proofs.Common.{◌+◌, ◌≤◌, ◌++◌, length, map, vec_len, vec_capacity, ap, sym, subst, arith}
use Rattle.sdl_run_driver.proofs.Rooms.{come_over, fewer_by_one}
use Rattle.sdl_run_serial.proofs.Begins.{room_for, none_left_of}
use Rattle.sdl_run_settling.proofs.back.take_blocks.Goals as goal

pub loop-rest-preserved : goal.loop-rest-preserved
loop-rest-preserved g c =
    let inv = c.loop-rest.invariant in
    let rest = c.loop-rest.rest.items in
    let fewer = c.take_front-thread.new.list.items in
    let one = fewer_by_one c.take_front-thread.result rest fewer c.take_front-thread.ensures in
    record {
      block_room = c.put_last.ensures.room (length fewer) (room_for c.loop-rest.blocks (length fewer + 1) (length rest) (omega (arith, one)) inv.block_room);
      end_room = c.put_behind.ensures.room (length fewer) (room_for c.loop-rest.ends (length fewer + 1) (length rest) (omega (arith, one)) inv.end_room);
      all = come_over (λ t. t.block) c.loop-rest.blocks.items c.put_last.new.list.items _ c.take_front-thread.result rest fewer c.take_front-thread.ensures c.put_last.ensures.items inv.all;
      all_ends = come_over (λ t. t.ends) c.loop-rest.ends.items c.put_behind.new.list.items _ c.take_front-thread.result rest fewer c.take_front-thread.ensures c.put_behind.ensures.items inv.all_ends;
      more = λ m h. c.put_behind.ensures.room (length fewer + m) (room_for c.loop-rest.ends (length fewer + m + 1) (length rest + m) (omega (arith, one)) (inv.more m h));
    }

pub returns-clause-room : goal.returns-clause-room
returns-clause-room g c = λ m h. room_for c.loop-rest.ends m (length c.loop-rest.rest.items + m) (omega arith) (c.loop-rest.invariant.more m h)

pub returns-clause-blocks : goal.returns-clause-blocks
returns-clause-blocks g c = none_left_of (λ t. t.block) c.loop-rest.blocks.items _ c.loop-rest.rest.items (omega (arith, c.loop-rest-test.false, c.len.ensures)) c.loop-rest.invariant.all

pub returns-clause-ends : goal.returns-clause-ends
returns-clause-ends g c = none_left_of (λ t. t.ends) c.loop-rest.ends.items _ c.loop-rest.rest.items (omega (arith, c.loop-rest-test.false, c.len.ensures)) c.loop-rest.invariant.all_ends

pub loop-rest-init : goal.loop-rest-init
loop-rest-init g c = let same = c.from-rest.ensures.0 in record {
  block_room = subst (λ xs. vec_len c.args.blocks.now + length xs ≤ vec_capacity c.args.blocks.now) (sym same) c.requires.blocks;
  end_room = subst (λ xs. vec_len c.args.ends.now + length xs ≤ vec_capacity c.args.ends.now) (sym same) c.requires.ends;
  all = ap (λ xs. c.args.blocks.now.items ++ map (λ t. t.block) xs) same;
  all_ends = ap (λ xs. c.args.ends.now.items ++ map (λ t. t.ends) xs) same;
  more = λ m h. subst (λ xs. vec_len c.args.ends.now + (length xs + m) ≤ vec_capacity c.args.ends.now) (sym same) h;
}
