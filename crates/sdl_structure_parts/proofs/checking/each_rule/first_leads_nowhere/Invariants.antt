use Rattle.std.proofs.Common.{[], ◌∷◌}
use Rattle.sdl_structure_parts.specs.EachRule.{IsKeptBefore}
use Rattle.sdl_structure_parts.proofs.checking.each_rule.first_leads_nowhere.Given as goal

abbrev pub invariant-loop-number : goal.invariant-loop-number
invariant-loop-number l = IsKeptBefore l.structure 5 (l.number ∷ [])
