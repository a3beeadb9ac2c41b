-- What comes back of the workers of threads. (This project's own.)
use Rattle.std.specs.Prelude.{◌≡◌, ℕ, zero, suc, ◌+◌, ◌<◌, ◌≤◌, List, [], ◌∷◌, ◌++◌, map, Option, Some, MatchOption}
use Rattle.std.specs.List.{AllByRecursion}
use Rattle.sdl_forward_ends.specs.Ends.{WorkerEnds}
use Rattle.sdl_run_threads.specs.declared.workers.BlockThread.{BlockThread}
use Rattle.sdl_run_threads.specs.declared.workers.ForwarderThread.{ForwarderThread}
use Rattle.sdl_run_threads.specs.declared.work.Returned.{Returned}
use Rattle.sdl_run_threads.specs.declared.work.Returned.TheVariants as returned
use Rattle.sdl_run_threads.specs.declared.kinds.Kind.{Kind}
use Rattle.sdl_run_threads.specs.declared.kinds.Kind.TheVariants as kind
use Rattle.sdl_run_threads.specs.Back.{worker_in}

-- the blocks among the workers that came back, in order
abbrev pub block_if : {B F : Type 0} → Kind B F → List B → List B
block_if (kind.Block b) bs = b ∷ bs
block_if (kind.Forwarder f) bs = bs

abbrev pub blocks_back : {B F : Type 0} → List (Returned (Kind B F)) → List B
blocks_back [] = []
blocks_back (r ∷ rs) = block_if (worker_in r) (blocks_back rs)

-- and the forwarders
abbrev pub forwarder_if : {B F : Type 0} → Kind B F → List F → List F
forwarder_if (kind.Block b) fs = fs
forwarder_if (kind.Forwarder f) fs = f ∷ fs

abbrev pub forwarders_back : {B F : Type 0} → List (Returned (Kind B F)) → List F
forwarders_back [] = []
forwarders_back (r ∷ rs) = forwarder_if (worker_in r) (forwarders_back rs)

-- the ends of all workers that came back, by number: those of the blocks, the environment's own, those of the forwarders
abbrev pub ends_back : {S K I : Type 0} {F : I → Type 0} {g : _} → WorkerEnds → List (Returned (Kind (BlockThread S K I F g) ForwarderThread)) → List WorkerEnds
ends_back own done = map (λ t. t.ends) (blocks_back done) ++ own ∷ map (λ t. t.ends) (forwarders_back done)

-- the worker made steps until it was told to stop
abbrev pub HasRun : {W : Type 0} → Returned W → Type 0
HasRun (returned.Ran w) = Unit {0}
HasRun (returned.Refused w) = ⊥
HasRun (returned.NotStarted w) = ⊥

-- it came back the way that this did
abbrev pub CameAs : {W V : Type 0} → Returned W → Returned V → Type 0
CameAs (returned.Ran w) (returned.Ran v) = Unit {0}
CameAs (returned.Ran w) (returned.Refused v) = ⊥
CameAs (returned.Ran w) (returned.NotStarted v) = ⊥
CameAs (returned.Refused w) (returned.Ran v) = ⊥
CameAs (returned.Refused w) (returned.Refused v) = Unit {0}
CameAs (returned.Refused w) (returned.NotStarted v) = ⊥
CameAs (returned.NotStarted w) (returned.Ran v) = ⊥
CameAs (returned.NotStarted w) (returned.Refused v) = ⊥
CameAs (returned.NotStarted w) (returned.NotStarted v) = Unit {0}

-- the worker at this place did not make steps until it was told to stop, and all before it did
abbrev pub FirstNotRun : {W : Type 0} → List (Returned W) → ℕ → Type 0
FirstNotRun [] k = ⊥
FirstNotRun (r ∷ rs) zero = HasRun r → ⊥
FirstNotRun (r ∷ rs) (suc k) = HasRun r × FirstNotRun rs k

-- it is the first that did not run, whose number is the place that it has behind so many
abbrev pub IsFirstFrom : {W : Type 0} → List (Returned W) → ℕ → ℕ → Type 0
IsFirstFrom done number w = (place : ℕ) × ((w ≡ number + place) × FirstNotRun done place)

-- The worker is the first of these that did not run. The number of a forwarder comes behind the environment's.
pub record IsFirstRefused {W : Type 0} (done : List (Returned W)) (blocks w : ℕ) : Type 0 where
  pub place : ℕ
  pub first : FirstNotRun done place
  pub of_block : place < blocks → w ≡ place
  pub of_forwarder : blocks ≤ place → w ≡ place + 1

-- none is named where all have run; else the environment, or else the first of the others that did not run
abbrev pub NamesFirst : {W V : Type 0} → List (Returned W) → Returned V → ℕ → Option ℕ → Type 0
NamesFirst done (returned.Ran v) blocks named = MatchOption named (AllByRecursion HasRun done) (λ w. IsFirstRefused done blocks w)
NamesFirst done (returned.Refused v) blocks named = named ≡ Some blocks
NamesFirst done (returned.NotStarted v) blocks named = named ≡ Some blocks
