-- A round of all workers.
use Rattle.std.proofs.Common.{ℕ, ◌+◌, ◌<◌, Bool, true, false, length, ◌≡◌, ◌⊎◌, inl, inr, refl, ap, sym, ◌∙◌, subst, arith}
use Rattle.std.proofs.lemmas.Bool.{cases_lt, false≢true}
use Rattle.std.proofs.lemmas.Option.{slice_get_within}
use Rattle.sdl_block_hand.specs.declared.hand.Stepped.{Stepped}
use Rattle.sdl_block.specs.declared.worker.BlockWorker.{BlockWorker}
use Rattle.sdl_run_driver.specs.declared.driver.Driver.{Driver}
use Rattle.sdl_run_driver.specs.declared.system.System.{System}
use Rattle.sdl_transition_behaviour.specs.declared.step.Frame.{Frame}
use Rattle.sdl_transition_behaviour.specs.declared.step.Step.{Step}
use Rattle.sdl_block_hand.specs.declared.hand.Stepped.TheVariants as stepped
use Rattle.sdl_run_outcome.specs.Plan.{Plan, workers_of}
use Rattle.sdl_run_order.specs.Driver.{Site, IsAtWork, IsIdle}
use Rattle.sdl_run_driver.specs.Drivers.{site_of, IsDriving, IsIdleAt, StepAnswers, HasGone}
use Rattle.sdl_run_driver.specs.Systems.{plan_of, IsSameSystem}
use Rattle.sdl_run_order.specs.Measure.{work_left}
use Rattle.sdl_run_driver.proofs.Drives.{workers_count, same_plan}

pub gone_none : (plan : Plan) (start : Site) → HasGone plan start start false 0
gone_none plan start = record { less = λ e. absurd (false≢true e); idle = λ e. (refl, λ k less. absurd (omega arith)) }

pub last : (k m : ℕ) → k < m + 1 → (k < m) ⊎ (k ≡ m)
last k m less = elim (cases_lt k m) [ inl e ↦ inl e | inr h ↦ inr (omega arith) ]

module _ (plan : Plan) (start now next : Site) (n : ℕ) where
  less_first : (did : Bool) → HasGone plan start now did n → work_left plan next < work_left plan now → work_left plan next < work_left plan start
  less_first true gone less = let before = gone.less refl in omega arith
  less_first false gone less = let before = ap (work_left plan) (gone.idle refl).0 in omega arith

  -- a worker did something
  pub gone_did : (did : Bool) → HasGone plan start now did n → StepAnswers plan n stepped.Did now next → HasGone plan start next true (n + 1)
  gone_did did gone less = record { less = λ e. less_first did gone less; idle = λ e. absurd (false≢true (sym e)) }

  -- a worker could do nothing
  pub gone_idle : (did : Bool) → HasGone plan start now did n → StepAnswers plan n stepped.Idle now next → HasGone plan start next did (n + 1)
  gone_idle did gone (same, here) =
      record {
        less = λ e. subst (λ (s : Site). work_left plan s < work_left plan start) (sym same) (gone.less e);
        idle = λ e. let before = gone.idle e in (
          same ∙ before.0,
          λ k less. elim (last k n less) [
            | inl below ↦ before.1 k below
            | inr at ↦ subst (IsIdleAt start) (sym at) (subst (λ (s : Site). IsIdleAt s n) before.0 here)
          ],
        );
      }

-- after a whole round in which no worker could do anything, nothing can be done
pub gone_all : (may : ℕ → Frame → Step → Type 0) (plan : Plan) (start now : Site) → IsAtWork may plan now → HasGone plan start now false (length (workers_of plan)) → IsIdle now
gone_all may plan start now work gone =
    let same = (gone.idle refl).0 in
    let each = (gone.idle refl).1 in
    let count = workers_count may plan now work in
    let env = (subst (λ (s : Site). IsIdleAt s (length now.blocks)) (sym same) (each (length now.blocks) (omega arith))).environment refl in
    record {
      blocks = λ n w at. let l = slice_get_within now.blocks n w at in (subst (λ (s : Site). IsIdleAt s n) (sym same) (each n (omega arith))).block w at;
      forwarders = λ k f at. let l = slice_get_within now.forwarders k f at in
          (subst (λ (s : Site). IsIdleAt s (length now.blocks + 1 + k)) (sym same) (each (length now.blocks + 1 + k) (omega arith))).forwarder k f refl at;
      ended = env.0;
      outgoing = env.1;
      outlet = env.2;
    }

module _ {S K I : Type 0} {F : I → Type 0} {g : _} where
  pub same_itself : (x : System (BlockWorker S K I F g)) → IsSameSystem x x
  same_itself x = record { checked = refl; routes = refl; budget = refl; behaviours = refl }

  pub same_still : (a b c : System (BlockWorker S K I F g)) → IsSameSystem a b → IsSameSystem b c → IsSameSystem a c
  same_still a b c x y = record { checked = y.checked ∙ x.checked; routes = y.routes ∙ x.routes; budget = y.budget ∙ x.budget; behaviours = y.behaviours ∙ x.behaviours }

  module _ (start now next : Driver S K I F g) (same : IsSameSystem start.system now.system) (n : ℕ) (answer : Stepped) (did : Bool) (gone : HasGone (plan_of start.system) (site_of start) (site_of now) did n)
      (step : StepAnswers (plan_of now.system) n answer (site_of now) (site_of next)) where
    answered : (expected : Stepped) → answer ≡ expected → StepAnswers (plan_of start.system) n expected (site_of now) (site_of next)
    answered expected e = subst (λ (p : Plan). StepAnswers p n expected (site_of now) (site_of next)) (same_plan start.system now.system same) (subst (λ (a : Stepped). StepAnswers (plan_of now.system) n a (site_of now) (site_of next)) e step)

    pub on_did : answer ≡ stepped.Did → (d : Bool) → d ≡ true → HasGone (plan_of start.system) (site_of start) (site_of next) d (n + 1)
    on_did e d is = subst (λ (b : Bool). HasGone (plan_of start.system) (site_of start) (site_of next) b (n + 1)) (sym is) (gone_did (plan_of start.system) (site_of start) (site_of now) (site_of next) n did gone (answered stepped.Did e))

    pub on_idle : answer ≡ stepped.Idle → (d : Bool) → d ≡ did → HasGone (plan_of start.system) (site_of start) (site_of next) d (n + 1)
    on_idle e d is = subst (λ (b : Bool). HasGone (plan_of start.system) (site_of start) (site_of next) b (n + 1)) (sym is) (gone_idle (plan_of start.system) (site_of start) (site_of now) (site_of next) n did gone (answered stepped.Idle e))

  pub at_end : (may : ℕ → Frame → Step → Type 0) (start now : Driver S K I F g) (did : Bool) (n : ℕ) → IsDriving may now → IsSameSystem start.system now.system
      → HasGone (plan_of start.system) (site_of start) (site_of now) did n → did ≡ false → n ≡ length (workers_of (plan_of start.system)) → IsIdle (site_of now)
  at_end may start now did n driving same gone none all =
      gone_all may (plan_of start.system) (site_of start) (site_of now) (subst (λ (p : Plan). IsAtWork may p (site_of now)) (same_plan start.system now.system same) driving.work)
      (subst (λ (k : ℕ). HasGone (plan_of start.system) (site_of start) (site_of now) false k) all (subst (λ (b : Bool). HasGone (plan_of start.system) (site_of start) (site_of now) b n) none gone))

  -- less of what is left, in terms of the first plan
  pub less_by : (first now next : Driver S K I F g) → IsSameSystem first.system now.system → work_left (plan_of now.system) (site_of next) < work_left (plan_of now.system) (site_of now) → work_left (plan_of first.system) (site_of next) < work_left (plan_of first.system) (site_of now)
  less_by first now next same less = subst (λ (p : Plan). work_left p (site_of next) < work_left p (site_of now)) (same_plan first.system now.system same) less
