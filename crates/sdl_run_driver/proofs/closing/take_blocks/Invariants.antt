use Rattle.std.proofs.Common.{◌≡◌, ℕ, ◌+◌, ◌++◌, map, length}
use Rattle.sdl_block.specs.Workers.{worker_of, behaviours_of}
use Rattle.sdl_run_driver.specs.Closings.{HasRoom, AreLogsCounted}
use Rattle.sdl_run_outcome.specs.Lists.{held_in}
use Rattle.sdl_run_order.specs.Driver.{block_hand}
use Rattle.sdl_run_driver.proofs.closing.take_blocks.Given as goal

abbrev pub invariant-loop-rest : goal.invariant-loop-rest
invariant-loop-rest g l = record {
  room : HasRoom (length l.rest.items) (length l.rest.items) l.room;
  parts : l.room.parts.items ++ map behaviours_of l.rest.items ≡ l.fn.room.parts.items ++ map behaviours_of l.fn.blocks.items;
  logs : map g.K.LogStore.events l.room.logs.items ++ map (λ w. (worker_of w).core.log) l.rest.items ≡ map g.K.LogStore.events l.fn.room.logs.items ++ map (λ w. (worker_of w).core.log) l.fn.blocks.items;
  hands : map held_in l.room.hands.items ++ map (λ w. block_hand (worker_of w)) l.rest.items ≡ map held_in l.fn.room.hands.items ++ map (λ w. block_hand (worker_of w)) l.fn.blocks.items;
  more : (more : ℕ) → HasRoom (length l.fn.blocks.items) (length l.fn.blocks.items + more) l.fn.room → HasRoom (length l.rest.items) (length l.rest.items + more) l.room;
  counted : AreLogsCounted g.K.LogStore.events l.fn.room.logs.items l.fn.room.counts.items → AreLogsCounted g.K.LogStore.events l.room.logs.items l.room.counts.items;
}

abbrev pub decreases-loop-rest : goal.decreases-loop-rest
decreases-loop-rest g l = length l.rest.items
