use Rattle.std.proofs.Common.{◌≡◌, ◌+◌, map, length, refl, arith}
use Rattle.sdl_block.specs.Workers.{worker_of, behaviours_of}
use Rattle.sdl_run_outcome.specs.Lists.{held_in}
use Rattle.sdl_run_order.specs.Driver.{block_hand}
use Rattle.sdl_run_driver.proofs.Rooms.{all_over, come_over, fewer_by_one, room_as}
use Rattle.sdl_run_driver.proofs.closing.take_blocks.Goals as goal

pub loop-rest-init : goal.loop-rest-init
loop-rest-init g c = record {
  room = c.requires.room;
  parts = refl;
  logs = refl;
  hands = refl;
  more = λ m h. h;
  counted = λ h. h;
}

pub loop-rest-preserved : goal.loop-rest-preserved
loop-rest-preserved g c =
    let inv = c.loop-rest.invariant in
    let w = c.take_first-worker.result in
    let rest = c.loop-rest.rest.items in
    let fewer = c.take_first-worker.new.list.items in
    let cut = c.take_first-worker.ensures in
    let one = fewer_by_one w rest fewer cut in
    record {
      room = c.take_block.ensures.room (length fewer) (length fewer) (room_as c.loop-rest.room (length rest) (length rest) (length fewer + 1) (length fewer + 1) one one inv.room);
      parts = come_over behaviours_of c.loop-rest.room.parts.items c.take_block.new.self.parts.items _ w rest fewer cut c.take_block.ensures.parts inv.parts;
      logs = come_over (λ v. (worker_of v).core.log) (map g.K.LogStore.events c.loop-rest.room.logs.items) (map g.K.LogStore.events c.take_block.new.self.logs.items) _ w rest fewer cut c.take_block.ensures.logs inv.logs;
      hands = come_over (λ v. block_hand (worker_of v)) (map held_in c.loop-rest.room.hands.items) (map held_in c.take_block.new.self.hands.items) _ w rest fewer cut c.take_block.ensures.hands inv.hands;
      more = λ m h. c.take_block.ensures.room (length fewer) (length fewer + m) (room_as c.loop-rest.room (length rest) (length rest + m) (length fewer + 1) (length fewer + m + 1) one (omega arith) (inv.more m h));
      counted = λ h. c.take_block.ensures.counted (inv.counted h);
    }

pub returns-clause-room : goal.returns-clause-room
returns-clause-room g c = λ m h.
    let none : length c.loop-rest.rest.items ≡ 0 = omega (arith, c.loop-rest-test.false, c.len.ensures) in
    room_as c.loop-rest.room (length c.loop-rest.rest.items) (length c.loop-rest.rest.items + m) 0 m none (omega arith) (c.loop-rest.invariant.more m h)

pub returns-clause-parts : goal.returns-clause-parts
returns-clause-parts g c =
    let none : length c.loop-rest.rest.items ≡ 0 = omega (arith, c.loop-rest-test.false, c.len.ensures) in
    all_over behaviours_of c.loop-rest.room.parts.items _ c.loop-rest.rest.items none c.loop-rest.invariant.parts

pub returns-clause-logs : goal.returns-clause-logs
returns-clause-logs g c =
    let none : length c.loop-rest.rest.items ≡ 0 = omega (arith, c.loop-rest-test.false, c.len.ensures) in
    all_over (λ v. (worker_of v).core.log) (map g.K.LogStore.events c.loop-rest.room.logs.items) _ c.loop-rest.rest.items none c.loop-rest.invariant.logs

pub returns-clause-hands : goal.returns-clause-hands
returns-clause-hands g c =
    let none : length c.loop-rest.rest.items ≡ 0 = omega (arith, c.loop-rest-test.false, c.len.ensures) in
    all_over (λ v. block_hand (worker_of v)) (map held_in c.loop-rest.room.hands.items) _ c.loop-rest.rest.items none c.loop-rest.invariant.hands

pub returns-clause-counted : goal.returns-clause-counted
returns-clause-counted g c = c.loop-rest.invariant.counted
