use Rattle.std.proofs.Common.{◌+◌, [], length, arith}
use Rattle.sdl_run_serial.proofs.Begins.{room_for}
use Rattle.sdl_run_settling.specs.Coming.{block_if, forwarder_if}
use Rattle.sdl_run_settling.proofs.Parts.{one_block, one_forwarder}
use Rattle.sdl_run_settling.proofs.back.place.Goals as goal

pub returns-in-Block-clause-block_room : goal.returns-in-Block-clause-block_room
returns-in-Block-clause-block_room g c more h =
    let one = one_block c.args.worker c.in-Block.block c.in-Block.is in
    c.put_last.ensures.room more (room_for c.args.blocks.now (more + 1) (length (block_if c.args.worker []) + more) (omega (arith, one)) h)

pub returns-in-Forwarder-clause-forwarder_room : goal.returns-in-Forwarder-clause-forwarder_room
returns-in-Forwarder-clause-forwarder_room g c more h =
    let one = one_forwarder c.args.worker c.in-Forwarder.forwarder c.in-Forwarder.is in
    c.put_last-in-Forwarder.ensures.room more (room_for c.args.forwarders.now (more + 1) (length (forwarder_if c.args.worker []) + more) (omega (arith, one)) h)
