-- Transitions that are counted through.
use Rattle.std.proofs.Common.{◌≡◌, ℕ, suc, ◌+◌, ◌-◌, ◌≤◌, List, [], ◌∷◌, length, take, drop, slice_index_or, arith, subst}
use Rattle.std.proofs.lemmas.List.{take_rest}
use Rattle.sdl_graph_binding.specs.declared.sets.SetDesign.{SetDesign}
use Rattle.sdl_graph_program.specs.Numbering.{IsNumberedIn}

-- the transition of this number is of a set behind the first
pub numbered_behind : (sets : List SetDesign) (none : SetDesign) (number place own : ℕ) → 1 ≤ length sets
    → (slice_index_or sets 0 none).transitions ≤ number
    → IsNumberedIn (take (length sets - 1) (drop 1 sets)) (number - (slice_index_or sets 0 none).transitions) place own
    → IsNumberedIn sets number (place + 1) own
numbered_behind [] none number place own some past known = let no : ⊥ = omega (arith, some) in absurd no
numbered_behind (set ∷ more) none number place own some past known =
    let on : IsNumberedIn more (number - set.transitions) place own = subst (λ l. IsNumberedIn l (number - set.transitions) place own) (take_rest (set ∷ more) 1) known in
    let up : suc place ≡ place + 1 = grind arith in
    subst (λ next. IsNumberedIn (set ∷ more) number next own) up record { behind = grind (arith, on.behind, past); within = on.within }
