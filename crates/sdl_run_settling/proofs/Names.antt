-- The worker that is named is the first that did not run.
use Rattle.std.proofs.Common.{ℕ, zero, suc, ◌+◌, ◌<◌, ◌≤◌, List, [], ◌∷◌, Option, Some, None, ◌≡◌, refl, sym, subst, MatchOption, arith}
use Rattle.std.specs.Prelude.{⊤}
use Rattle.std.specs.List.{AllByRecursion}
use Rattle.sdl_run_threads.specs.declared.work.Returned.{Returned}
use Rattle.sdl_run_settling.specs.Coming.{HasRun, FirstNotRun, IsFirstFrom, IsFirstRefused}

module _ {W : Type 0} (done rest : List (Returned W)) (r : Returned W) (cut : done ≡ r ∷ rest) (number : ℕ) where
  -- it is the first of them
  pub first_here : (HasRun r → ⊥) → IsFirstFrom done number number
  first_here not = (0, (omega (arith), subst (λ rs. FirstNotRun rs 0) (sym cut) not))

  -- or one of those behind it
  pub first_later : HasRun r → (o : Option ℕ) → MatchOption o ⊤ (λ w. IsFirstFrom rest (number + 1) w) → MatchOption o ⊤ (λ w. IsFirstFrom done number w)
  first_later ran None h = tt
  first_later ran (Some w) h = (suc h.0, ((let a = h.1.0 in omega (arith, a)), subst (λ rs. FirstNotRun rs (suc h.0)) (sym cut) (ran, h.1.1)))
