use Rattle.std.proofs.Common.{[], ◌+◌, length, arith}
use Rattle.sdl_run_serial.proofs.Begins.{room_for}
use Rattle.sdl_run_settling.specs.Coming.{block_if, forwarder_if, blocks_back, forwarders_back}
use Rattle.sdl_run_settling.proofs.Parts.{block_cut, forwarder_cut, gone_over, none_over, count_over, no_blocks, no_forwarders}
use Rattle.sdl_run_settling.proofs.back.part.Goals as goal

pub place-requires-clause-blocks : goal.place-requires-clause-blocks
place-requires-clause-blocks g c =
    let w = c.split_returned-worker.result.0 in
    let cut = block_cut c.loop-rest.rest.items c.take_front-returned.new.list.items c.take_front-returned.result w c.take_front-returned.ensures c.split_returned-worker.ensures.worker in
    let count = count_over (block_if w []) (blocks_back c.loop-rest.rest.items) (blocks_back c.take_front-returned.new.list.items) cut in
    room_for c.loop-rest.blocks (length (block_if w [])) (length (blocks_back c.loop-rest.rest.items)) (omega (arith, count)) c.loop-rest.invariant.block_room

pub place-requires-clause-forwarders : goal.place-requires-clause-forwarders
place-requires-clause-forwarders g c =
    let w = c.split_returned-worker.result.0 in
    let cut = forwarder_cut c.loop-rest.rest.items c.take_front-returned.new.list.items c.take_front-returned.result w c.take_front-returned.ensures c.split_returned-worker.ensures.worker in
    let count = count_over (forwarder_if w []) (forwarders_back c.loop-rest.rest.items) (forwarders_back c.take_front-returned.new.list.items) cut in
    room_for c.loop-rest.forwarders (length (forwarder_if w [])) (length (forwarders_back c.loop-rest.rest.items)) (omega (arith, count)) c.loop-rest.invariant.forwarder_room

pub loop-rest-preserved : goal.loop-rest-preserved
loop-rest-preserved g c =
    let inv = c.loop-rest.invariant in
    let rest = c.loop-rest.rest.items in
    let fewer = c.take_front-returned.new.list.items in
    let w = c.split_returned-worker.result.0 in
    let blocks = block_cut rest fewer c.take_front-returned.result w c.take_front-returned.ensures c.split_returned-worker.ensures.worker in
    let lines = forwarder_cut rest fewer c.take_front-returned.result w c.take_front-returned.ensures c.split_returned-worker.ensures.worker in
    let block_count = count_over (block_if w []) (blocks_back rest) (blocks_back fewer) blocks in
    let line_count = count_over (forwarder_if w []) (forwarders_back rest) (forwarders_back fewer) lines in
    record {
      block_room = c.place.ensures.block_room (length (blocks_back fewer)) (room_for c.loop-rest.blocks (length (block_if w []) + length (blocks_back fewer)) (length (blocks_back rest)) (omega (arith, block_count)) inv.block_room);
      forwarder_room = c.place.ensures.forwarder_room (length (forwarders_back fewer)) (room_for c.loop-rest.forwarders (length (forwarder_if w []) + length (forwarders_back fewer)) (length (forwarders_back rest)) (omega (arith, line_count)) inv.forwarder_room);
      all_blocks = gone_over c.loop-rest.blocks.items c.place.new.blocks.items _ (block_if w []) (blocks_back rest) (blocks_back fewer) blocks c.place.ensures.blocks inv.all_blocks;
      all_forwarders = gone_over c.loop-rest.forwarders.items c.place.new.forwarders.items _ (forwarder_if w []) (forwarders_back rest) (forwarders_back fewer) lines c.place.ensures.forwarders inv.all_forwarders;
    }

pub returns-clause-blocks : goal.returns-clause-blocks
returns-clause-blocks g c =
    none_over c.loop-rest.blocks.items _ (blocks_back c.loop-rest.rest.items) (no_blocks c.loop-rest.rest.items (omega (arith, c.loop-rest-test.false, c.len.ensures))) c.loop-rest.invariant.all_blocks

pub returns-clause-forwarders : goal.returns-clause-forwarders
returns-clause-forwarders g c =
    none_over c.loop-rest.forwarders.items _ (forwarders_back c.loop-rest.rest.items) (no_forwarders c.loop-rest.rest.items (omega (arith, c.loop-rest-test.false, c.len.ensures))) c.loop-rest.invariant.all_forwarders
