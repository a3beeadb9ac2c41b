use Rattle.std.proofs.Common.{[], ◌∷◌}
use Rattle.sdl_structure_parts.specs.Rules.{direction_rank}
use Rattle.sdl_structure_parts.specs.EachRule.{IsKeptBefore}
use Rattle.sdl_structure_parts.proofs.checking.each_rule.first_not_in_gate_of.Given as goal

abbrev pub invariant-loop-signal : goal.invariant-loop-signal
invariant-loop-signal l = IsKeptBefore l.structure 3 (l.number ∷ direction_rank l.direction ∷ l.signal-index ∷ [])
