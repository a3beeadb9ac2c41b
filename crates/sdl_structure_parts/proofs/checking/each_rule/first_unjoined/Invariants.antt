use Rattle.std.proofs.Common.{ℕ, ◌<◌}
use Rattle.sdl_structure_parts.proofs.Simple.{AreSidesJoined}
use Rattle.sdl_structure_parts.proofs.checking.each_rule.first_unjoined.Given as goal

abbrev pub invariant-loop-number : goal.invariant-loop-number
invariant-loop-number l = (n : ℕ) → n < l.number → AreSidesJoined l.structure n
