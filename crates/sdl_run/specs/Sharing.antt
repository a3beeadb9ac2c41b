-- Which worker of a run in threads has which ends. (This project's own.)
use Rattle.std.specs.Prelude.{◌≡◌, ℕ, List, [], ◌∷◌, ◌++◌, map, length}
use Rattle.sdl_forward_ends.specs.Ends.{WorkerEnds}
use Rattle.sdl_forward.specs.Forwards.{Forwarding}
use Rattle.sdl_block.specs.declared.worker.BlockWorker.{BlockWorker}
use Rattle.sdl_run_threads.specs.declared.workers.BlockThread.{BlockThread}
use Rattle.sdl_run_threads.specs.declared.workers.ForwarderThread.{ForwarderThread}
use Rattle.sdl_run_threads.specs.declared.kinds.Kind.{Kind}
use Rattle.sdl_run_threads.specs.declared.kinds.Kind.TheVariants as kind

-- each with the ends at its place
abbrev pub paired : {X W : Type 0} → (X → WorkerEnds → W) → List X → List WorkerEnds → List W
paired f [] es = []
paired f (x ∷ xs) [] = []
paired f (x ∷ xs) (e ∷ es) = f x e ∷ paired f xs es

-- a block with its ends and its budget, and a forwarder with its ends
abbrev pub block_thread : {S K I : Type 0} {F : I → Type 0} {g : _} → ℕ → BlockWorker S K I F g → WorkerEnds → BlockThread S K I F g
block_thread budget b e = record { block = b; ends = e; budget = budget }

abbrev pub forwarder_thread : Forwarding → WorkerEnds → ForwarderThread
forwarder_thread f e = record { forwarder = f; ends = e }

-- the first of these ends are given to so many, in order, who come behind the others
pub record Gives {X W : Type 0} (f : X → WorkerEnds → W) (xs : List X) (before after : List WorkerEnds) (old new : List W) : Type 0 where
  pub own : List WorkerEnds
  pub cut : before ≡ own ++ after
  pub count : length own ≡ length xs
  pub added : new ≡ old ++ paired f xs own

-- each worker has the ends of its number: the blocks, the environment, the forwarders
pub record GivesOut {S K I : Type 0} {F : I → Type 0} {g : _} (budget : ℕ) (blocks : List (BlockWorker S K I F g)) (forwarders : List Forwarding) (all : List WorkerEnds)
    (workers : List (Kind (BlockThread S K I F g) ForwarderThread)) (environment : WorkerEnds) : Type 0 where
  pub of_blocks : List WorkerEnds
  pub of_forwarders : List WorkerEnds
  pub cut : all ≡ of_blocks ++ environment ∷ of_forwarders
  pub block_count : length of_blocks ≡ length blocks
  pub forwarder_count : length of_forwarders ≡ length forwarders
  pub workers_are : workers ≡ map kind.Block (paired (block_thread budget) blocks of_blocks) ++ map kind.Forwarder (paired forwarder_thread forwarders of_forwarders)
