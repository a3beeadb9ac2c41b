use Rattle.std.proofs.Common.{subst}
use Rattle.std.specs.List.Sorted.{IsPermutation}
use Rattle.sdl_chart_msc.proofs.places.places_of.Goals as goal

pub returns : goal.returns
returns g c = record {
  each = subst (λ ps. IsPermutation ps c.sort_unstable.new.self.items) c.in_ok-places.ensures c.sort_unstable.ensures.permutation;
  sorted = c.sort_unstable.ensures.sorted;
}
