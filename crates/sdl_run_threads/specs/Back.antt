-- What a worker that was handed to a thread comes back as.
use Rattle.std.specs.Prelude.{◌≡◌, ⊤, Bool, true, false, List, [], ◌∷◌, ◌++◌, Option, Some, None}
use Rattle.std.specs.List.{AllZip}
use Rattle.sdl_run_threads.specs.declared.work.Returned.{Returned}
use Rattle.sdl_run_threads.specs.declared.work.Returned.TheVariants.{Ran, Refused, NotStarted}

-- the worker, however it came back
abbrev pub worker_in : {W : Type 0} → Returned W → W
worker_in (Ran w) = w
worker_in (Refused w) = w
worker_in (NotStarted w) = w

-- the worker that made steps, to the last of which memory was refused or not
abbrev pub came_back : {W : Type 0} → W → Bool → Returned W
came_back w true = Refused w
came_back w false = Ran w

-- a worker whose thread could not start is as it was
abbrev pub IsUntouched : {W : Type 0} → W → Returned W → Type 0
IsUntouched old (Ran w) = ⊤
IsUntouched old (Refused w) = ⊤
IsUntouched old (NotStarted w) = w ≡ old

-- It is the worker that was given, and keeps what its steps keep.
pub record ComesFrom {W : Type 0} (keeps : W → Type 0) (same : W → W → Type 0) (old : W) (new : Returned W) : Type 0 where
  pub sound : keeps (worker_in new)
  pub own : same old (worker_in new)
  pub untouched : IsUntouched old new

-- Where nothing was in its hand before, nothing is in the hand of one that made steps, unless memory was refused to the last.
abbrev pub HandStaysEmpty : {W : Type 0} → (W → Type 0) → W → Returned W → Type 0
HandStaysEmpty empty old (Ran w) = empty old → empty w
HandStaysEmpty empty old (Refused w) = ⊤
HandStaysEmpty empty old (NotStarted w) = ⊤

-- a worker as it comes back from its thread, by what holds of it and of its hand
pub record ComesBackFrom {W : Type 0} (keeps : W → Type 0) (same : W → W → Type 0) (empty : W → Type 0) (old : W) (new : Returned W) : Type 0 where
  pub comes : ComesFrom keeps same old new
  pub hand : HandStaysEmpty empty old new

-- behind those that were there come these workers, each as it came back
pub record HaveCome {W : Type 0} (comes : W → Returned W → Type 0) (workers : List W) (before after : List (Returned W)) : Type 0 where
  pub backs : List (Returned W)
  pub behind : after ≡ before ++ backs
  pub each : AllZip comes workers backs

-- a worker makes its steps in a thread, or it came back at once, behind those that were there
abbrev pub IsUnderWay : {W T : Type 0} → (W → T → Type 0) → (W → Returned W → Type 0) → W → List (Returned W) → List (Returned W) → Option T → Type 0
IsUnderWay {W} runs comes worker before after None = (back : Returned W) × (after ≡ before ++ back ∷ []) × comes worker back
IsUnderWay runs comes worker before after (Some thread) = (after ≡ before) × runs worker thread

-- the last worker of the list is under way, and the rest is left
pub record StartsLast {W T : Type 0} (runs : W → T → Type 0) (comes : W → Returned W → Type 0) (workers rest : List W) (before after : List (Returned W)) (thread : Option T) : Type 0 where
  pub worker : W
  pub last : workers ≡ rest ++ worker ∷ []
  pub way : IsUnderWay runs comes worker before after thread
