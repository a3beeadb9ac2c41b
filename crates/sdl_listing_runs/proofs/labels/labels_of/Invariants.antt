use Rattle.std.proofs.Common.{◌≡◌, map, take, flat_map}
use Rattle.sdl_listing_runs.specs.Labels.{names_of, set_names}
use Rattle.sdl_listing_runs.proofs.labels.labels_of.Given as goal

abbrev pub invariant-loop-listed : goal.invariant-loop-listed
invariant-loop-listed l = map names_of l.labels.items ≡ flat_map (set_names l.structure) (take l.listed-index l.listing)
