-- What the laws of the ledger ask of a run holds of blocks at work.
use Rattle.std.proofs.Common.{ℕ, suc, ◌+◌, ◌*◌, ◌<◌, ◌≤◌, List, [], ◌∷◌, length, map, ◌≡◌, Some, slice_get, inl, inr, refl, subst, arith}
use Rattle.std.specs.List.{AllByRecursion}
use Rattle.std.proofs.lemmas.Option.{slice_get_cases}
use Rattle.sdl_signal.specs.declared.ids.BlockId.{BlockId}
use Rattle.sdl_transition_behaviour.specs.declared.step.Frame.{Frame}
use Rattle.sdl_transition_behaviour.specs.declared.step.Step.{Step}
use Rattle.sdl_instances_log.specs.declared.event.Event.{Event}
use Rattle.sdl_instances.specs.Core.{IsBoundIn, signals_of, sets_of}
use Rattle.sdl_instances.specs.Run.{origins, turns}
use Rattle.sdl_block_hand.specs.Work.{Working}
use Rattle.sdl_run_outcome.specs.Plan.{Plan, blocks_in, rules_at}
use Rattle.sdl_run_order.specs.Driver.{IsCoreAt}

module _ (may : ℕ → Frame → Step → Type 0) (plan : Plan) where
  pub bound_at : (ws : List Working) → length ws ≡ blocks_in plan → ((n : ℕ) (w : Working) → slice_get ws n ≡ Some w → IsCoreAt may plan n w.core)
      → (n : ℕ) → n < blocks_in plan → IsBoundIn (signals_of plan.structure) (sets_of plan.structure) (rules_at plan n) (record { 0 = n })
  bound_at ws all cores n less = elim (slice_get_cases ws n).1 [
    | inl w ↦ (
        let c = cores n w.0 w.2 in
        subst (λ (b : BlockId). IsBoundIn (signals_of plan.structure) (sets_of plan.structure) (rules_at plan n) b) c.block c.sound.bound)
    | inr past ↦ (let p = past.0 in absurd (omega (arith, p, all, less)))
  ]

  -- the blocks from k on
  pub turns_few : (k : ℕ) (ws : List Working) → ((n : ℕ) (w : Working) → slice_get ws n ≡ Some w → IsCoreAt may plan (k + n) w.core)
      → AllByRecursion (λ (log : List Event). turns log ≤ 1000000) (map (λ (w : Working). w.core.log) ws)
  turns_few k [] cores = tt
  turns_few k (w ∷ ws) cores = (
    (let s = (cores 0 w refl).sound in let a = s.turns_within in let b = s.few_turns in omega (arith, a, b)),
    turns_few (k + 1) ws (λ n v e. subst (λ (m : ℕ). IsCoreAt may plan m v.core) (omega arith) (cores (suc n) v e)),
  )

  pub outputs_few : (k : ℕ) (ws : List Working) → ((n : ℕ) (w : Working) → slice_get ws n ≡ Some w → IsCoreAt may plan (k + n) w.core)
      → AllByRecursion (λ (log : List Event). length (origins log) ≤ 8 * turns log) (map (λ (w : Working). w.core.log) ws)
  outputs_few k [] cores = tt
  outputs_few k (w ∷ ws) cores = (
    (cores 0 w refl).sound.few_outputs,
    outputs_few (k + 1) ws (λ n v e. subst (λ (m : ℕ). IsCoreAt may plan m v.core) (omega arith) (cores (suc n) v e)),
  )
