-- How a run ended, as its exit status tells it. (This project's own.)
use Rattle.std.specs.Prelude.{◌≡◌, ℕ, ◌<◌, ◌≤◌, ◌⊎◌, List, ◌++◌, Option, Some, false, length, slice_get, max}
use Rattle.std.specs.List.{AllByRecursion}
use Rattle.std.specs.Io.KnownBytes.{Keeps}
use Rattle.sdl_signal.specs.declared.values.Item.{Item}
use Rattle.sdl_signal.specs.declared.values.Origin.{Origin}
use Rattle.sdl_signal.specs.declared.ends.InputEnd.{InputEnd}
use Rattle.sdl_signal.specs.declared.ends.OutputEnd.{OutputEnd}
use Rattle.sdl_structure_parts.specs.Structure.{Structure, lexicon_of}
use Rattle.sdl_routes.specs.declared.route.TableRow.{TableRow}
use Rattle.sdl_transition.specs.Rules.{Rules}
use Rattle.sdl_transition_behaviour.specs.declared.step.Frame.{Frame}
use Rattle.sdl_transition_behaviour.specs.declared.step.Step.{Step}
use Rattle.sdl_instances_log.specs.declared.event.Event.{Event}
use Rattle.sdl_instances.specs.Machine.{State}
use Rattle.sdl_instances.specs.Run.{turns}
use Rattle.sdl_run_outcome.specs.declared.end.RunEnd.{RunEnd}
use Rattle.sdl_run_outcome.specs.declared.end.RunEnd.TheVariants as run_end
use Rattle.sdl_run_outcome.specs.Books.{NoOther, outs, came, left}
use Rattle.sdl_run_outcome.specs.Causes.{IsCause}
use Rattle.sdl_run_outcome.specs.Ends.{EndsAs}
use Rattle.sdl_run_outcome.specs.Outcome.{Outcome, IsComplete, LeftsAreLegal, all_origins, books_of, log_at}
use Rattle.sdl_run_outcome.specs.Plan.{Plan, ways_of, blocks_in}
use Rattle.sdl_run_outcome.specs.EnvironmentWork.{HasReadAll, HasWritten, received_text}
use Rattle.sdl_run_driver.specs.Ended.{HasEnded}
use Rattle.sdl_run_ledger.specs.declared.ledger.Ledger.{Ledger}
use Rattle.sdl_run_ledger.specs.Counts.{IsLedgerOf, Balances, waiting_in}
use Rattle.sdl_run_driver.specs.Closings.{StopsByMemory}
use Rattle.sdl_app_command.specs.declared.arguments.Options.{Options}
use Rattle.sdl_app_command.specs.Status.{HasFlushed, status_of}

-- 0 where nothing was left to do, and 3 where a budget was used or memory was refused
abbrev pub status_of_end : RunEnd → ℕ
status_of_end run_end.Quiet = 0
status_of_end (run_end.Spent b) = 3
status_of_end (run_end.Memory w) = 3

-- the status of a run, by how its input, its output and it itself ended
abbrev pub status_of_run : InputEnd → OutputEnd → RunEnd → ℕ
status_of_run read written end = max (status_of read written) (status_of_end end)

-- The status tells how a run ended: its input, its output, which what was written after the run may have met a fault of, and
-- it itself.
abbrev pub IsToldBy : InputEnd → OutputEnd → RunEnd → ℕ → Type 0
IsToldBy read written end status = (last : OutputEnd) × HasFlushed written last × (status ≡ status_of_run read last end)

-- the plan of a structure file, with the rules of its blocks
abbrev pub plan_with : Structure → List TableRow → List (List Rules) → Plan
plan_with s routes rules = record { structure = s; routes = routes; rules = rules; budget = s.budget }

-- The structure was run to an end, with its own budget, and the status tells how: all that holds of every run that has ended,
-- but for what its logs say of the behaviours.
pub record HasRun (s : Structure) (routes : List TableRow) (status : ℕ) : Type 0 where
  pub rules : List (List Rules)
  pub outcome : Outcome
  pub finals : List State
  pub end : RunEnd
  pub ledger : Ledger
  pub read : InputEnd
  pub written : OutputEnd
  pub complete : IsComplete (plan_with s routes rules) outcome
  pub in_order : (r : ℕ) → r < length routes
      → outs (ways_of (plan_with s routes rules)) (books_of (plan_with s routes rules) outcome) r
      ≡ came (ways_of (plan_with s routes rules)) (books_of (plan_with s routes rules) outcome) r ++ left (ways_of (plan_with s routes rules)) (books_of (plan_with s routes rules) outcome) r
  pub once : (j k : ℕ) (x : Origin) → slice_get (all_origins outcome) j ≡ Some x → slice_get (all_origins outcome) k ≡ Some x → j ≡ k
  pub no_other : NoOther (ways_of (plan_with s routes rules)) (books_of (plan_with s routes rules) outcome)
  pub no_cycle : (i : Item) → IsCause (log_at outcome.logs) i i → ⊥
  pub ends : EndsAs (plan_with s routes rules) outcome finals end
  pub within_budget : AllByRecursion (λ (log : List Event). turns log ≤ s.budget) outcome.logs
  pub lefts : LeftsAreLegal (plan_with s routes rules) outcome
  pub counts : IsLedgerOf outcome (waiting_in finals) ledger
  pub balanced : Balances ledger
  pub stopped : StopsByMemory read end
  pub told : IsToldBy read written end status

-- a run was refused before it began, or made to an end
abbrev pub HasRunOrNot : Structure → List TableRow → ℕ → Type 0
HasRunOrNot s routes status = (status ≡ 1) ⊎ HasRun s routes status

-- A run was made by this plan: all that holds of every run that has ended holds of it, it read and wrote so, and the status tells
-- how it ended.
pub record WasRun (may : ℕ → Frame → Step → Type 0) (plan : Plan) (unread rest old new : Option (List ℕ)) (status : ℕ) : Type 0 where
  pub outcome : Outcome
  pub end : RunEnd
  pub ledger : Ledger
  pub read : InputEnd
  pub written : OutputEnd
  pub ended : HasEnded may plan outcome end ledger
  pub reading : HasReadAll plan.structure plan.routes (blocks_in plan) unread rest outcome.env_put read
  pub writing : HasWritten old new (received_text (lexicon_of plan.structure) plan.routes outcome.env_received) written
  pub stopped : StopsByMemory read end
  pub told : IsToldBy read written end status

-- A run was made by this plan, and after it the ledger and the trace were written, where they were asked for, and else nothing.
abbrev pub HasMade : (ℕ → Frame → Step → Type 0) → Plan → Options → Option (List ℕ) → Option (List ℕ) → Option (List ℕ) → Option (List ℕ) → ℕ → Type 0
HasMade may plan options unread rest old new status =
    (ended : Option (List ℕ)) × WasRun may plan unread rest old ended status × (options.ledger ≡ false → options.trace ≡ false → Keeps ended new)

-- Such a run of the structure along its routes, with its own budget, by agents that answer as they may. Which rules the behaviours
-- of these agents give its blocks is not said here: there are some.
abbrev pub HasRunBy : (ℕ → Frame → Step → Type 0) → Structure → List TableRow → Options → Option (List ℕ) → Option (List ℕ) → Option (List ℕ) → Option (List ℕ) → ℕ → Type 0
HasRunBy may s routes options unread rest old new status = (rules : List (List Rules)) × HasMade may (plan_with s routes rules) options unread rest old new status
