-- What holds of every run that has ended. (This project's own.)
use Rattle.std.specs.Prelude.{ℕ, ◌≤◌, List}
use Rattle.std.specs.List.{AllByRecursion}
use Rattle.sdl_transition_behaviour.specs.declared.step.Frame.{Frame}
use Rattle.sdl_transition_behaviour.specs.declared.step.Step.{Step}
use Rattle.sdl_instances_log.specs.declared.event.Event.{Event}
use Rattle.sdl_instances.specs.Machine.{State}
use Rattle.sdl_instances.specs.Run.{turns}
use Rattle.sdl_run_outcome.specs.declared.end.RunEnd.{RunEnd}
use Rattle.sdl_run_outcome.specs.Plan.{Plan}
use Rattle.sdl_run_outcome.specs.Outcome.{Outcome, IsComplete, Headline, LeftsAreLegal}
use Rattle.sdl_run_outcome.specs.Ends.{EndsAs}
use Rattle.sdl_run_ledger.specs.declared.ledger.Ledger.{Ledger}
use Rattle.sdl_run_ledger.specs.Counts.{IsLedgerOf, Balances, waiting_in}

-- All that holds of a run that has ended. The blocks end in the same states in the headline, in the end and in the ledger.
pub record HasEnded (may : ℕ → Frame → Step → Type 0) (plan : Plan) (o : Outcome) (end : RunEnd) (ledger : Ledger) : Type 0 where
  pub finals : List State
  pub complete : IsComplete plan o
  pub headline : Headline may plan o finals
  pub ends : EndsAs plan o finals end
  pub within_budget : AllByRecursion (λ (log : List Event). turns log ≤ plan.budget) o.logs
  pub lefts : LeftsAreLegal plan o
  pub counts : IsLedgerOf o (waiting_in finals) ledger
  pub balanced : Balances ledger
