use Rattle.std.proofs.Common.{◌≡◌, take, map}
use Rattle.sdl_graph.specs.Lists.{first_of_sort}
use Rattle.sdl_graph.proofs.lists.first_parameters.Given as goal

abbrev pub invariant-loop-sort : goal.invariant-loop-sort
invariant-loop-sort l = l.made.items ≡ map first_of_sort (take l.sort-index l.sorts)
