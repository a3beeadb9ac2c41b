-- What was caused by what: an output was caused by what arrived at its block before it, and by the causes of that.
-- (This project's own.)
use Rattle.std.specs.Prelude.{ℕ, List, [], ◌∷◌, ◌⊎◌}
use Rattle.sdl_signal.specs.declared.values.Item.{Item}
use Rattle.sdl_instances_log.specs.declared.event.Event.{Event}
use Rattle.sdl_instances.specs.Run.{arrived_in, sent}
use Rattle.sdl_run_outcome.specs.Stations.{Among}

-- i arrived before o was sent
abbrev pub Precedes : Item → Item → List Event → Type 0
Precedes i o [] = ⊥
Precedes i o (e ∷ es) = (Among i (arrived_in e) × Among o (sent es)) ⊎ Precedes i o es

-- i arrived at the block that sent o before that, or at one that sent what arrived there before that, and so on
pub data IsCause (logs : ℕ → List Event) : Item → Item → Type 0 where
  direct : {i o : Item} (n : ℕ) → Precedes i o (logs n) → IsCause logs i o
  further : {i k o : Item} → IsCause logs i k → IsCause logs k o → IsCause logs i o
