use Rattle.std.proofs.Common.{◌≡◌, ◌++◌, map, length}
use Rattle.sdl_run_driver.specs.Closings.{HasRoom}
use Rattle.sdl_run_outcome.specs.Lists.{held_in}
use Rattle.sdl_run_order.specs.Driver.{forwarder_hand}
use Rattle.sdl_run_driver.proofs.closing.take_forwarders.Given as goal

abbrev pub invariant-loop-rest : goal.invariant-loop-rest
invariant-loop-rest g l = record {
  room : HasRoom 0 (length l.rest.items) l.room;
  parts : l.room.parts ≡ l.fn.room.parts;
  logs : l.room.logs ≡ l.fn.room.logs;
  counts : l.room.counts ≡ l.fn.room.counts;
  hands : map held_in l.room.hands.items ++ map forwarder_hand l.rest.items ≡ map held_in l.fn.room.hands.items ++ map forwarder_hand l.fn.forwarders.items;
}

abbrev pub decreases-loop-rest : goal.decreases-loop-rest
decreases-loop-rest g l = length l.rest.items
