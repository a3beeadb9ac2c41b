use Rattle.std.proofs.Common.{◌≡◌, take}
use Rattle.sdl_structure_parts.proofs.structure.copied.Given as goal

abbrev pub invariant-loop-sort : goal.invariant-loop-sort
invariant-loop-sort l = l.copy.items ≡ take l.sort-index l.sorts.items
