-- A search for what a fact holds of.
use Rattle.std.specs.Prelude.{Option, Some, None}

-- it found one, or there is none
abbrev pub Finds : {X : Type 0} → (X → Type 0) → Option X → Type 0
Finds Holds (Some x) = Holds x
Finds {X = X} Holds None = (x : X) → ¬ Holds x
