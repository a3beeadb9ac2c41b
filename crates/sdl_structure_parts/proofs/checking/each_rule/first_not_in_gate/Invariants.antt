use Rattle.std.proofs.Common.{[], ◌∷◌}
use Rattle.sdl_structure_parts.specs.EachRule.{IsKeptBefore}
use Rattle.sdl_structure_parts.proofs.checking.each_rule.first_not_in_gate.Given as goal

abbrev pub invariant-loop-number : goal.invariant-loop-number
invariant-loop-number l = IsKeptBefore l.structure 3 (l.number ∷ [])
