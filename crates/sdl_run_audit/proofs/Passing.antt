-- What an audit says of runs.
use Rattle.std.proofs.Common.{◌≡◌, ◌⊎◌, inl, inr, ℕ, zero, suc, ◌<◌, [], ◌∷◌, Result, Ok, Err, refl, sym, ◌∙◌, arith}
use Rattle.sdl_transition_behaviour.specs.declared.step.Frame.{Frame}
use Rattle.sdl_transition_behaviour.specs.declared.step.Step.{Step}
use Rattle.sdl_run_ledger.specs.declared.ledger.Ledger.{Ledger}
use Rattle.sdl_run_ledger.specs.Counts.{IsLedgerOf}
use Rattle.sdl_run_outcome.specs.declared.end.RunEnd.{RunEnd}
use Rattle.sdl_run_outcome.specs.Plan.{Plan}
use Rattle.sdl_run_outcome.specs.Outcome.{Outcome}
use Rattle.sdl_run_outcome.specs.Ring.{plan, tok, leaves}
use Rattle.sdl_run_driver.specs.Ended.{HasEnded}
use Rattle.sdl_run_audit.specs.declared.fault.AuditFault.{AuditFault}
use Rattle.sdl_run_audit.specs.declared.fault.AuditFault.TheVariants as fault
use Rattle.sdl_run_audit.specs.Audits.{IsInOrder, Answers}

-- the ledger, where as many wait as it says
as_it_says : (o : Outcome) (waiting : ℕ) (l : Ledger) → IsLedgerOf o waiting l → IsLedgerOf o l.waiting l
as_it_says o waiting l h =
    record {
      output = h.output;
      no_route = h.no_route;
      entered = h.entered;
      no_instance = h.no_instance;
      gone = h.gone;
      left = h.left;
      fired = h.fired;
      implicit = h.implicit;
      stopped = h.stopped;
      waiting_is = refl;
      environment = h.environment;
    }

pub passes : (may : ℕ → Frame → Step → Type 0) (p : Plan) (o : Outcome) (end : RunEnd) (l : Ledger) → HasEnded may p o end l → (answer : Result (Unit {0}) AuditFault) → Answers p o l answer → (answer ≡ Ok tt) ⊎ (answer ≡ Err fault.Memory)
passes may p o end l ended (Ok u) h = inl refl
passes may p o end l ended (Err (fault.Route r)) h = absurd (h.1 (ended.headline.in_order r.0 h.0))
passes may p o end l ended (Err fault.Ledger) h = absurd (h.1 (as_it_says o _ l ended.counts, ended.balanced))
passes may p o end l ended (Err fault.Memory) h = inr refl

-- along both routes of Ring what was output is what came, and what is left
pub ring_in_order : (r : ℕ) → r < 2 → IsInOrder (plan 2) (leaves (tok 2 0 1 ∷ [])) r
ring_in_order zero h = refl
ring_in_order (suc zero) h = refl
ring_in_order (suc (suc r)) h = absurd (omega arith)

pub not_left_out : (l : Ledger) → l.left ≡ 0 → Answers (plan 2) (leaves (tok 2 0 1 ∷ [])) l (Ok tt) → ⊥
not_left_out l e h = let n : ◌≡◌ {A = ℕ} 1 0 = sym h.1.0.left ∙ e in omega arith
