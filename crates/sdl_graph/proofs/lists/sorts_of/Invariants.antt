use Rattle.std.proofs.Common.{◌≡◌, take, map}
use Rattle.sdl_signal.specs.Sorts.{sort_of}
use Rattle.sdl_graph.proofs.lists.sorts_of.Given as goal

abbrev pub invariant-loop-value : goal.invariant-loop-value
invariant-loop-value l = l.made.items ≡ map sort_of (take l.value-index l.values)
