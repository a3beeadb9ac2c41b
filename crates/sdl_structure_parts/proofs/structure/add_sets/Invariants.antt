use Rattle.std.proofs.Common.{◌≡◌, ◌++◌, take, map}
use Rattle.sdl_structure_parts.proofs.structure.add_sets.Given as goal

abbrev pub invariant-loop-set : goal.invariant-loop-set
invariant-loop-set l = l.names ≡ record l.fn.names { sets = l.fn.names.sets ++ map (λ t. t.name.bytes) (take l.set-index l.sets) }
