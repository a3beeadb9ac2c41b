-- Which worker with its ends it is, whatever its steps did. (This project's own.)
use Rattle.std.specs.Prelude.{◌≡◌, refl}
use Rattle.std.proofs.Common.{◌∙◌}
use Rattle.sdl_instances.specs.Calls.{LeavesOthers}
use Rattle.sdl_forward_ends.specs.Ends.{IsSameEnds}
use Rattle.sdl_block.specs.Workers.{behaviours_of, worker_of}
use Rattle.sdl_run_threads.specs.declared.workers.ForwarderThread.{ForwarderThread}
use Rattle.sdl_run_threads.specs.declared.workers.BlockThread.{BlockThread}

-- it takes from the same path, by the same ends
pub record IsSameForwarder (u v : ForwarderThread) : Type 0 where
  pub hop : v.forwarder.hop ≡ u.forwarder.hop
  pub ends : IsSameEnds u.ends v.ends

pub IsSameForwarder-refl : (w : ForwarderThread) → IsSameForwarder w w
IsSameForwarder-refl w = record { hop = refl; ends = record { feeds = refl; tap = refl } }

pub IsSameForwarder-trans : (u v w : ForwarderThread) → IsSameForwarder u v → IsSameForwarder v w → IsSameForwarder u w
IsSameForwarder-trans u v w p q = record { hop = q.hop ∙ p.hop; ends = record { feeds = q.ends.feeds ∙ p.ends.feeds; tap = q.ends.tap ∙ p.ends.tap } }

-- it has the same behaviours, and its core the same block, signals, sets and budget; its ends are the same
pub record IsSameBlock {S K I : Type 0} {F : I → Type 0} {g : _} (u v : BlockThread S K I F g) : Type 0 where
  pub parts : behaviours_of v.block ≡ behaviours_of u.block
  pub rest : LeavesOthers (worker_of u.block).core (worker_of v.block).core
  pub budget : v.budget ≡ u.budget
  pub ends : IsSameEnds u.ends v.ends

pub IsSameBlock-refl : {S K I : Type 0} {F : I → Type 0} {g : _} (w : BlockThread S K I F g) → IsSameBlock w w
IsSameBlock-refl w = record { parts = refl; rest = (refl, refl, refl, refl); budget = refl; ends = record { feeds = refl; tap = refl } }

pub IsSameBlock-trans : {S K I : Type 0} {F : I → Type 0} {g : _} (u v w : BlockThread S K I F g) → IsSameBlock u v → IsSameBlock v w → IsSameBlock u w
IsSameBlock-trans u v w p q =
    record {
      parts = q.parts ∙ p.parts;
      rest = (q.rest.0 ∙ p.rest.0, q.rest.1 ∙ p.rest.1, q.rest.2 ∙ p.rest.2, q.rest.3 ∙ p.rest.3);
      budget = q.budget ∙ p.budget;
      ends = record { feeds = q.ends.feeds ∙ p.ends.feeds; tap = q.ends.tap ∙ p.ends.tap };
    }
