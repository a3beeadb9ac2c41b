-- The transitions of a listing by number, and what they answer. (This project's own.)
use Rattle.std.specs.Prelude.{◌≡◌, ℕ, List, [], ◌∷◌, ◌++◌, length}
use Rattle.sdl_transition_behaviour.specs.declared.step.Frame.{Frame}
use Rattle.sdl_transition_behaviour.specs.declared.step.Step.{Step}
use Rattle.sdl_listing_body.specs.declared.syntax.Row.{Row}
use Rattle.sdl_listing_body.specs.Doing.{IsStepOf}
use Rattle.sdl_listing_body.specs.declared.listing.ListedSet.{ListedSet}

-- the transitions through all sets, of each the start and then its rows
abbrev pub rows_of : List ListedSet → List Row
rows_of [] = []
rows_of (s ∷ more) = s.start ∷ s.rows.items ++ rows_of more

-- the row is the one of this number
pub record IsRowAt (rows : List Row) (number : ℕ) (row : Row) : Type 0 where
  pub before : List Row
  pub after : List Row
  pub split : rows ≡ before ++ row ∷ after
  pub behind : length before ≡ number

-- the step is what the row of this number says for the frame
abbrev pub IsAnswerIn : List Row → ℕ → Frame → Step → Type 0
IsAnswerIn rows number frame step = (row : Row) × IsRowAt rows number row × IsStepOf row frame step
