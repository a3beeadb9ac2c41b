use Rattle.std.proofs.Common.{◌≡◌, take, map}
use Rattle.sdl_graph.specs.Lists.{offered_as}
use Rattle.sdl_graph.proofs.lists.listed_outputs.Given as goal

abbrev pub invariant-loop-output : goal.invariant-loop-output
invariant-loop-output l = l.made.items ≡ map offered_as (take l.output-index l.listed)
