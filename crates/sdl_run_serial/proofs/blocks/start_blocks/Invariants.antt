use Rattle.std.proofs.Common.{◌≡◌, ◌+◌, ◌≤◌, ◌++◌, All, map, length, vec_len, vec_capacity}
use Rattle.std.specs.List.{AllByRecursion}
use Rattle.sdl_transition.specs.Rules.{block_rules}
use Rattle.sdl_instances.specs.Core.{IsBoundIn, signals_of, sets_of}
use Rattle.sdl_block.specs.Workers.{behaviours_of}
use Rattle.sdl_run_serial.specs.Serial.{IsNew}
use Rattle.sdl_run_serial.proofs.blocks.start_blocks.Given as goal

abbrev pub invariant-loop-alloc : goal.invariant-loop-alloc
invariant-loop-alloc g l = record {
  room : vec_len l.made + length l.rest.items ≤ vec_capacity l.made;
  all : map behaviours_of l.made.items ++ l.rest.items ≡ l.fn.blocks.items;
  new : AllByRecursion (IsNew g.S.Agents.may l.checked l.fn.budget) l.made.items;
  bound : All (λ p. IsBoundIn (signals_of l.checked) (sets_of l.checked) (block_rules p) p.block) l.rest.items;
}

abbrev pub decreases-loop-alloc : goal.decreases-loop-alloc
decreases-loop-alloc g l = length l.rest.items
