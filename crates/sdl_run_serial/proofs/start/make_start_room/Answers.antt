use Rattle.std.proofs.Common.{refl, arith, ap, ◌∙◌, ◌+◌, length, List, map}
use Rattle.sdl_structure_parts.specs.declared.parts.Channel.{Channel}
use Rattle.sdl_structure_parts.specs.Structure.{Structure}
use Rattle.sdl_run_driver.proofs.Rooms.{room_as}
use Rattle.sdl_run_outcome.specs.Plan.{delaying_from}
use Rattle.sdl_run_serial.specs.Starting.{idle_at}
use Rattle.sdl_run_serial.proofs.start.make_start_room.Goals as goal

pub returns : goal.returns
returns g c =
    record {
      board = c.in_ok-board.ensures.stations;
      empty = c.in_ok-board.ensures.empty;
      forwarders = c.in_ok-forwarders.ensures ∙ ap (λ (cs : List Channel). map idle_at (delaying_from 0 cs)) (c.channels.ensures ∙ ap (λ (s : Structure). s.channels) c.structure-structure.ensures.structure);
      environment = c.in_ok-environment.ensures;
      room = room_as c.in_ok-room.room c.args.blocks _ c.args.blocks (c.args.blocks + (length c.in_ok-forwarders.forwarders.items + 1)) refl (omega (arith, c.len.ensures)) c.in_ok-room.ensures.room;
      room_empty = c.in_ok-room.ensures.empty;
      workers = c.in_ok-workers.ensures.items;
      workers_room = omega (arith, c.in_ok-workers.ensures.len, c.in_ok-workers.ensures.capacity);
    }
