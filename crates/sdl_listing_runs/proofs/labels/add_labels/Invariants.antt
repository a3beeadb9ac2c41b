use Rattle.std.proofs.Common.{◌≡◌, ◌∷◌, ◌++◌, map, take}
use Rattle.sdl_listing_runs.specs.Labels.{names_of, start_names, row_names}
use Rattle.sdl_listing_runs.proofs.labels.add_labels.Given as goal

abbrev pub invariant-loop-row : goal.invariant-loop-row
invariant-loop-row l =
    map names_of l.labels.items
    ≡ map names_of l.fn.labels.items ++ start_names l.structure l.listed ∷ map (row_names l.structure l.listed) (take l.row-index l.row-items)
