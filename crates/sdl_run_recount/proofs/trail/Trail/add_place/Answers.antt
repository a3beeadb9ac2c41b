use Rattle.std.proofs.Common.{[], refl}
use Rattle.sdl_run_recount.specs.Sorted.{lists_in}
use Rattle.sdl_run_recount.proofs.Sorting.{gain_none, gain_then}
use Rattle.sdl_run_recount.proofs.trail.Trail.add_place.Goals as goal

pub returns : goal.returns
returns c =
    record {
      output_gains = gain_none (lists_in c.args.self.now.output) (λ r. []) (λ r less. refl);
      found_gains = gain_then _ _ _ c.in_ok-add_kept.ensures c.in_ok-add_rests.ensures (λ r. refl);
    }
