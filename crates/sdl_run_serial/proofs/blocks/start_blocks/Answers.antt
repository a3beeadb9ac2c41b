use Rattle.std.proofs.Common.{◌+◌, ◌++◌, map, length, ap, sym, ◌∙◌, subst, arith}
use Rattle.std.specs.List.{AllByRecursion}
use Rattle.sdl_transition.specs.Rules.{block_rules}
use Rattle.sdl_instances.specs.Core.{IsBoundIn, signals_of, sets_of}
use Rattle.sdl_block.specs.Workers.{behaviours_of}
use Rattle.sdl_run_serial.specs.Serial.{IsNew}
use Rattle.sdl_run_driver.proofs.Rooms.{fewer_by_one}
use Rattle.sdl_run_serial.proofs.Begins.{worker_over, room_for, none_left, all_push, all_first, all_fewer, new_worker, stopped_here}
use Rattle.sdl_run_serial.proofs.blocks.start_blocks.Goals as goal

pub loop-alloc-init : goal.loop-alloc-init
loop-alloc-init g c =
    record {
      room = c.requires.room;
      all = ap (λ ws. map behaviours_of ws ++ c.args.blocks.items) c.requires.empty;
      new = subst (λ ws. AllByRecursion (IsNew g.S.Agents.may c.args.checked.now c.args.budget) ws) (sym c.requires.empty) tt;
      bound = c.requires.bound;
    }

pub new-requires-clause-bound : goal.new-requires-clause-bound
new-requires-clause-bound g c =
    all_first (λ p. IsBoundIn (signals_of c.args.checked.now) (sets_of c.args.checked.now) (block_rules p) p.block) c.take_first-parts.result c.loop-alloc.rest.items c.take_first-parts.new.list.items
    c.take_first-parts.ensures c.loop-alloc.invariant.bound

pub put_last-requires : goal.put_last-requires
put_last-requires g c =
    let one = fewer_by_one c.take_first-parts.result c.loop-alloc.rest.items c.take_first-parts.new.list.items c.take_first-parts.ensures in
    room_for c.loop-alloc.made 1 (length c.loop-alloc.rest.items) (omega (arith, one)) c.loop-alloc.invariant.room

pub loop-alloc-smaller : goal.loop-alloc-smaller
loop-alloc-smaller g c =
    let one = fewer_by_one c.take_first-parts.result c.loop-alloc.rest.items c.take_first-parts.new.list.items c.take_first-parts.ensures in
    omega (arith, one)

pub loop-alloc-preserved : goal.loop-alloc-preserved
loop-alloc-preserved g c =
    let inv = c.loop-alloc.invariant in
    let p = c.take_first-parts.result in
    let rest = c.loop-alloc.rest.items in
    let fewer = c.take_first-parts.new.list.items in
    let cut = c.take_first-parts.ensures in
    let one = fewer_by_one p rest fewer cut in
    let w = c.new-in-Ok.result in
    let may = g.S.Agents.may in
    record {
      room = c.put_last.ensures.room (length fewer) (room_for c.loop-alloc.made (length fewer + 1) (length rest) (omega (arith, one)) inv.room);
      all = worker_over behaviours_of c.loop-alloc.made.items c.put_last.new.list.items c.args.blocks.items w p rest fewer cut c.put_last.ensures.items (c.new-in-Ok.ensures.parts ∙ c.in-Ok.ensures.parts) inv.all;
      new = all_push (IsNew may c.args.checked.now c.args.budget) c.loop-alloc.made.items c.put_last.new.list.items w c.put_last.ensures.items
          (new_worker may c.args.checked.now c.args.budget p c.in-Ok.core w c.new-in-Ok.ensures.worker c.new-in-Ok.ensures.parts c.in-Ok.ensures.initial c.in-Ok.ensures.parts c.in-Ok.ensures.sound) inv.new;
      bound = all_fewer (λ q. IsBoundIn (signals_of c.args.checked.now) (sets_of c.args.checked.now) (block_rules q) q.block) p rest fewer cut inv.bound;
    }

pub returns-in-Err-clause-back : goal.returns-in-Err-clause-back
returns-in-Err-clause-back g c = stopped_here behaviours_of c.loop-alloc.made.items c.loop-alloc.rest.items c.take_first-parts.new.list.items c.args.blocks.items c.take_first-parts.result c.in-Err.parts c.in-Err.ensures.err c.take_first-parts.ensures c.loop-alloc.invariant.all

pub returns-clause-parts : goal.returns-clause-parts
returns-clause-parts g c = none_left (map behaviours_of c.loop-alloc.made.items) c.args.blocks.items c.loop-alloc.rest.items (omega (arith, c.loop-alloc-test.false, c.len.ensures)) c.loop-alloc.invariant.all

pub returns-clause-new : goal.returns-clause-new
returns-clause-new g c = c.loop-alloc.invariant.new
