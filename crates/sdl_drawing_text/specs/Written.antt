-- That a text of some kind was written. (This project's own.)
use Rattle.std.specs.Prelude.{ℕ, List, Option}
use Rattle.std.specs.Io.KnownBytes.{Appends}

-- what stands there now is what stood there, and behind it a text of which this holds
abbrev pub Adds : (List ℕ → Type 0) → Option (List ℕ) → Option (List ℕ) → Type 0
Adds IsText old new = (text : List ℕ) × IsText text × Appends old new text
