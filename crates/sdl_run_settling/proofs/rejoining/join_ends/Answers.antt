use Rattle.std.proofs.Common.{◌+◌, ◌≤◌, length, map, sym, subst, arith}
use Rattle.std.specs.List.{AllByRecursion}
use Rattle.sdl_forward_ends.specs.Ends.{column, AreAllEndsOf, AreRejoined}
use Rattle.sdl_run_serial.proofs.Begins.{room_for}
use Rattle.sdl_run_settling.specs.Coming.{blocks_back, forwarders_back}
use Rattle.sdl_run_settling.proofs.Parts.{all_ends, only_added}
use Rattle.sdl_run_settling.proofs.rejoining.join_ends.Goals as goal

pub put_last-requires : goal.put_last-requires
put_last-requires g c =
    let n = only_added c.args.room.block_threads.items (blocks_back c.args.done.items) c.part.new.blocks.items c.requires.room.block_threads_empty c.part.ensures.blocks in
    c.take_blocks.ensures.room 1
    (room_for c.args.room.ends (length c.part.new.blocks.items + 1) (length (blocks_back c.args.done.items) + (length (forwarders_back c.args.done.items) + 1)) (omega (arith, n)) c.requires.room.ends)

pub take_forwarders-requires-clause-ends : goal.take_forwarders-requires-clause-ends
take_forwarders-requires-clause-ends g c =
    let n = only_added c.args.room.block_threads.items (blocks_back c.args.done.items) c.part.new.blocks.items c.requires.room.block_threads_empty c.part.ensures.blocks in
    let m = only_added c.args.room.forwarder_threads.items (forwarders_back c.args.done.items) c.part.new.forwarders.items c.requires.room.forwarder_threads_empty c.part.ensures.forwarders in
    c.put_last.ensures.room (length c.part.new.forwarders.items)
    (c.take_blocks.ensures.room (length c.part.new.forwarders.items + 1)
    (room_for c.args.room.ends (length c.part.new.blocks.items + (length c.part.new.forwarders.items + 1)) (length (blocks_back c.args.done.items) + (length (forwarders_back c.args.done.items) + 1)) (omega (arith, n, m)) c.requires.room.ends))

pub ends_rejoin-rests-requires-clause-all : goal.ends_rejoin-rests-requires-clause-all
ends_rejoin-rests-requires-clause-all g c =
    let e = all_ends c.args.own c.args.done.items c.args.room.block_threads.items c.part.new.blocks.items c.args.room.forwarder_threads.items c.part.new.forwarders.items c.args.room.ends.items c.take_blocks.new.ends.items c.put_last.new.list.items c.take_forwarders.new.ends.items
    c.requires.room.block_threads_empty c.requires.room.forwarder_threads_empty c.requires.room.ends_empty c.part.ensures.blocks c.part.ensures.forwarders c.take_blocks.ensures.ends c.put_last.ensures.items c.take_forwarders.ensures.ends in
    subst (λ es. AreAllEndsOf (map (λ x. x.0) c.args.shelf) es) (sym e) c.requires.all

pub ends_rejoin-rests-requires-clause-room : goal.ends_rejoin-rests-requires-clause-room
ends_rejoin-rests-requires-clause-room g c =
    let e = all_ends c.args.own c.args.done.items c.args.room.block_threads.items c.part.new.blocks.items c.args.room.forwarder_threads.items c.part.new.forwarders.items c.args.room.ends.items c.take_blocks.new.ends.items c.put_last.new.list.items c.take_forwarders.new.ends.items
    c.requires.room.block_threads_empty c.requires.room.forwarder_threads_empty c.requires.room.ends_empty c.part.ensures.blocks c.part.ensures.forwarders c.take_blocks.ensures.ends c.put_last.ensures.items c.take_forwarders.ensures.ends in
    subst (λ es. AllByRecursion (λ x. length (column x.0 es) ≤ x.1) c.args.shelf) (sym e) c.requires.enough

pub returns-clause-rests : goal.returns-clause-rests
returns-clause-rests g c =
    let e = all_ends c.args.own c.args.done.items c.args.room.block_threads.items c.part.new.blocks.items c.args.room.forwarder_threads.items c.part.new.forwarders.items c.args.room.ends.items c.take_blocks.new.ends.items c.put_last.new.list.items c.take_forwarders.new.ends.items
    c.requires.room.block_threads_empty c.requires.room.forwarder_threads_empty c.requires.room.ends_empty c.part.ensures.blocks c.part.ensures.forwarders c.take_blocks.ensures.ends c.put_last.ensures.items c.take_forwarders.ensures.ends in
    subst (λ es. AreRejoined es (map (λ x. x.0) c.args.shelf) c.ends_rejoin-rests.result.items) e c.ends_rejoin-rests.ensures
