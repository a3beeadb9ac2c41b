-- What comes after a run that was audited.
use Rattle.std.proofs.Common.{◌≡◌, ℕ, true, List, Option, inl, inr, sym, ◌∙◌, subst, arith}
use Rattle.sdl_signal.specs.declared.ends.InputEnd.{InputEnd}
use Rattle.sdl_signal.specs.declared.ends.OutputEnd.{OutputEnd}
use Rattle.sdl_run_outcome.specs.declared.end.RunEnd.{RunEnd}
use Rattle.sdl_app_file_runs.specs.Outcomes.{IsToldBy}
use Rattle.sdl_graph_program.specs.Outcomes.{HasAudited}

-- its status is never that of a refusal
pub not_one : (old new : Option (List ℕ)) (told status : ℕ) → (told ≡ 1 → ⊥) → HasAudited true old new told status → status ≡ 1 → ⊥
not_one old new told status run (inl ok) e = run (sym ok.0 ∙ e)
not_one old new told status run (inr fault) e = omega arith

-- the closing ended as before
pub told_again : (i j : InputEnd) (o p : OutputEnd) (e f : RunEnd) (status : ℕ) → j ≡ i → p ≡ o → f ≡ e → IsToldBy j p f status → IsToldBy i o e status
told_again i j o p e f status a b c h =
    subst (λ (x : InputEnd). IsToldBy x o e status) a (subst (λ (x : OutputEnd). IsToldBy j x e status) b (subst (λ (x : RunEnd). IsToldBy j p x status) c h))
