-- How the transitions of a graph are counted through, over all its sets. (This project's own.)
use Rattle.std.specs.Prelude.{◌≡◌, ℕ, ◌+◌, ◌<◌, ◌≤◌, List, [], ◌∷◌, take, slice_get, IsSomeAnd}
use Rattle.sdl_graph_binding.specs.declared.sets.SetDesign.{SetDesign}

-- how many transitions these sets have together
abbrev pub transitions_of : List SetDesign → ℕ
transitions_of [] = 0
transitions_of (set ∷ more) = set.transitions + transitions_of more

-- The transition of this number is, of the set at this place, the one of its own number, of which 0 is the start: it comes behind
-- all transitions of the sets before.
pub record IsNumberedIn (sets : List SetDesign) (number place own : ℕ) : Type 0 where
  pub behind : number ≡ transitions_of (take place sets) + own
  pub within : IsSomeAnd (slice_get sets place) (λ set. own < set.transitions)

-- no set has a transition of this number
abbrev pub IsPastAll : List SetDesign → ℕ → Type 0
IsPastAll sets number = transitions_of sets ≤ number
