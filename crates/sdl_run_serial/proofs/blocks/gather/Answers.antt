use Rattle.std.proofs.Common.{◌+◌, length, arith}
use Rattle.sdl_run_serial.proofs.Begins.{room_for}
use Rattle.sdl_run_serial.proofs.blocks.gather.Goals as goal

pub put_last-requires : goal.put_last-requires
put_last-requires g c = room_for c.regain.new.parts 1 (length c.args.rest.items + 1) (omega arith) (c.regain.ensures.room (length c.args.rest.items + 1) c.requires.room)

pub take_all-requires : goal.take_all-requires
take_all-requires g c = record { room = c.put_last.ensures.room (length c.args.rest.items) (c.regain.ensures.room (length c.args.rest.items + 1) c.requires.room) }
