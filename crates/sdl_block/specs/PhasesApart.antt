-- What a step of a block does where each queue has ends of its own.
use Rattle.std.specs.Prelude.{◌≡◌, ℕ, ◌≤◌, ◌⊎◌, Bool, None, Some, Result}
use Rattle.sdl_signal.specs.declared.values.Pid.{Pid}
use Rattle.sdl_signal.specs.declared.values.Item.{Item}
use Rattle.sdl_transition_behaviour.specs.declared.step.Frame.{Frame}
use Rattle.sdl_transition_behaviour.specs.declared.step.Step.{Step}
use Rattle.sdl_instances.specs.Machine.{System}
use Rattle.sdl_instances.specs.Core.{IsReady}
use Rattle.sdl_forward_ends.specs.Ends.{WorkerEnds, taken_by}
use Rattle.sdl_block_hand.specs.declared.hand.Stepped.{Stepped}
use Rattle.sdl_block_hand.specs.declared.hand.Stepped.TheVariants as stepped
use Rattle.sdl_block_hand.specs.declared.hand.Refused.{Refused}
use Rattle.sdl_block_hand.specs.Puts.{answer_of}
use Rattle.sdl_block_hand.specs.Work.{Working}
use Rattle.sdl_block_hand.specs.Apart.{StepsApart}
use Rattle.sdl_block.specs.Phases.{IsSpent}
use Rattle.sdl_block.specs.Rounds.{arrivals, turns_made}

abbrev pub StepsToApart : (ℕ → Frame → Step → Type 0) → System → Working → WorkerEnds → Result Bool Refused → Working → WorkerEnds → Type 0
StepsToApart may sys old before result new after = StepsApart may sys old before (answer_of result) new after

-- A step is one round: at most one item arrives, and at most one turn is made. Neither is left out that can be.
pub record IsOneRoundApart (old : Working) (before : WorkerEnds) (answer : Stepped) (new : Working) (after : WorkerEnds) : Type 0 where
  pub one_arrival : arrivals old.core new.core ≤ 1
  pub one_turn : turns_made old.core new.core ≤ 1
  -- a kept item arrives in place of one taken
  pub in_place : (i : Item) → old.kept ≡ Some i → taken_by after ≡ taken_by before
  -- after a step that did something, none arrived only where the budget was used, or none was kept and none taken
  pub arrival : answer ≡ stepped.Did → (arrivals old.core new.core ≡ 1) ⊎ (IsSpent old.core ⊎ ((old.kept ≡ None) × (taken_by after ≡ taken_by before)))
  -- and no turn was made only where the budget is used or no instance is ready
  pub turn : answer ≡ stepped.Did → (turns_made old.core new.core ≡ 1) ⊎ (IsSpent new.core ⊎ ((p : Pid) → IsReady p new.core.state → ⊥))
