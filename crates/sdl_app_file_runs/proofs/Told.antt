-- From what holds of a run that has ended to what its exit status tells.
use Rattle.std.proofs.Common.{ℕ, List, Option, ◌≡◌, ◌⊎◌, inl, inr, max, refl, sym, ◌∙◌, subst, arith}
use Rattle.sdl_signal.specs.declared.ends.InputEnd.{InputEnd}
use Rattle.sdl_signal.specs.declared.ends.InputEnd.TheVariants as input
use Rattle.sdl_signal.specs.declared.ends.OutputEnd.{OutputEnd}
use Rattle.sdl_signal.specs.declared.ends.OutputEnd.TheVariants as output
use Rattle.sdl_structure_parts.specs.Structure.{Structure, lexicon_of}
use Rattle.sdl_routes.specs.declared.route.TableRow.{TableRow}
use Rattle.sdl_transition_behaviour.specs.declared.step.Frame.{Frame}
use Rattle.sdl_transition_behaviour.specs.declared.step.Step.{Step}
use Rattle.sdl_transition.specs.Rules.{Rules}
use Rattle.sdl_run_outcome.specs.declared.end.RunEnd.{RunEnd}
use Rattle.sdl_run_outcome.specs.declared.end.RunEnd.TheVariants as run_end
use Rattle.sdl_run_outcome.specs.Outcome.{Outcome}
use Rattle.sdl_run_outcome.specs.Plan.{Plan, blocks_in}
use Rattle.sdl_run_outcome.specs.EnvironmentWork.{HasReadAll, HasWritten, received_text}
use Rattle.sdl_run_ledger.specs.declared.ledger.Ledger.{Ledger}
use Rattle.sdl_run_driver.specs.Closings.{StopsByMemory}
use Rattle.sdl_run_driver.specs.Ended.{HasEnded}
use Rattle.sdl_app_command.specs.Status.{status_of_input, status_of_output}
use Rattle.sdl_app_file_runs.specs.Outcomes.{HasRun, WasRun, IsToldBy, plan_with, status_of_end, status_of_run}

has_run : (may : ℕ → Frame → Step → Type 0) (s : Structure) (routes : List TableRow) (rules : List (List Rules)) (o : Outcome) (end : RunEnd) (ledger : Ledger) (read : InputEnd) (written : OutputEnd) (status : ℕ)
    → HasEnded may (plan_with s routes rules) o end ledger → StopsByMemory read end → IsToldBy read written end status → HasRun s routes status
has_run may s routes rules o end ledger read written status h stops told =
    record {
      rules = rules;
      outcome = o;
      finals = h.finals;
      end = end;
      ledger = ledger;
      read = read;
      written = written;
      complete = h.complete;
      in_order = h.headline.in_order;
      once = h.headline.once;
      no_other = h.headline.no_other;
      no_cycle = h.headline.no_cycle;
      ends = h.ends;
      within_budget = h.within_budget;
      lefts = h.lefts;
      counts = h.counts;
      balanced = h.balanced;
      stopped = stops;
      told = told;
    }

-- the same of a run whose budget is that of its structure
pub run_told : (may : ℕ → Frame → Step → Type 0) (s : Structure) (routes : List TableRow) (rules : List (List Rules)) (budget : ℕ) (o : Outcome) (end : RunEnd) (ledger : Ledger) (read : InputEnd) (written : OutputEnd) (status : ℕ)
    → budget ≡ s.budget → HasEnded may (record { structure = s; routes = routes; rules = rules; budget = budget }) o end ledger → StopsByMemory read end → IsToldBy read written end status
    → HasRun s routes status
run_told may s routes rules budget o end ledger read written status same h stops told =
    has_run may s routes rules o end ledger read written status
    (subst (λ (b : ℕ). HasEnded may (record { structure = s; routes = routes; rules = rules; budget = b }) o end ledger) same h) stops told

-- and so it is of what it read and wrote
module _ (may : ℕ → Frame → Step → Type 0) (s : Structure) (routes : List TableRow) (rules : List (List Rules)) where
  abbrev pub planned : ℕ → Plan
  planned b = record { structure = s; routes = routes; rules = rules; budget = b }

  pub was_run : (budget : ℕ) (unread rest old new : Option (List ℕ)) (o : Outcome) (end : RunEnd) (ledger : Ledger) (read : InputEnd) (written : OutputEnd) (status : ℕ)
      → budget ≡ s.budget → HasEnded may (planned budget) o end ledger → HasReadAll s routes (blocks_in (planned budget)) unread rest o.env_put read
      → HasWritten old new (received_text (lexicon_of s) routes o.env_received) written → StopsByMemory read end → IsToldBy read written end status
      → WasRun may (planned s.budget) unread rest old new status
  was_run budget unread rest old new o end ledger read written status same h reads writes stops told =
      subst (λ (b : ℕ). WasRun may (planned b) unread rest old new status) same
      (record { outcome = o; end = end; ledger = ledger; read = read; written = written; ended = h; reading = reads; writing = writes; stopped = stops; told = told })

-- the status of a part of a run is 0 or 3
input_told : (end : InputEnd) → (status_of_input end ≡ 0) ⊎ (status_of_input end ≡ 3)
input_told input.Whole = inl refl
input_told (input.BadLine line fault) = inr refl
input_told input.ReadFault = inr refl
input_told input.TooMuch = inr refl
input_told (input.Stopped lines) = inl refl

output_told : (end : OutputEnd) → (status_of_output end ≡ 0) ⊎ (status_of_output end ≡ 3)
output_told output.Whole = inl refl
output_told output.WriteFault = inr refl

end_told : (end : RunEnd) → (status_of_end end ≡ 0) ⊎ (status_of_end end ≡ 3)
end_told run_end.Quiet = inl refl
end_told (run_end.Spent block) = inr refl
end_told (run_end.Memory worker) = inr refl

both_told : (a b : ℕ) → (a ≡ 0) ⊎ (a ≡ 3) → (b ≡ 0) ⊎ (b ≡ 3) → (max a b ≡ 0) ⊎ (max a b ≡ 3)
both_told a b (inl p) (inl q) = inl (omega arith)
both_told a b (inl p) (inr q) = inr (omega arith)
both_told a b (inr p) (inl q) = inr (omega arith)
both_told a b (inr p) (inr q) = inr (omega arith)

no_one : (n : ℕ) → (n ≡ 0) ⊎ (n ≡ 3) → n ≡ 1 → ⊥
no_one n (inl p) q = omega arith
no_one n (inr p) q = omega arith

-- so the status of a run that was made is never that of a refusal
pub not_refused : (read : InputEnd) (written : OutputEnd) (end : RunEnd) (status : ℕ) → IsToldBy read written end status → status ≡ 1 → ⊥
not_refused read written end status told refused =
    no_one (status_of_run read told.0 end) (both_told _ _ (both_told _ _ (input_told read) (output_told told.0)) (end_told end)) (sym told.2 ∙ refused)
