use Rattle.std.specs.List.{AllByRecursion}
use Rattle.sdl_transition.specs.Transitions.{IsAllowedBehaviour}
use Rattle.sdl_stepper_block_calls.proofs.rows.keep_rows.Given as goal

abbrev pub invariant-loop-behaviour : goal.invariant-loop-behaviour
invariant-loop-behaviour g l = AllByRecursion (IsAllowedBehaviour g.S.Agents.may) l.behaviour-items
