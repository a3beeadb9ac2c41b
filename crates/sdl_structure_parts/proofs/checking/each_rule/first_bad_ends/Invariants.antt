use Rattle.std.proofs.Common.{ℕ, ◌<◌, slice_get, IfSome}
use Rattle.sdl_structure_parts.specs.Rules.{HasDistinctEnds}
use Rattle.sdl_structure_parts.proofs.checking.each_rule.first_bad_ends.Given as goal

abbrev pub invariant-loop-number : goal.invariant-loop-number
invariant-loop-number l = (n : ℕ) → n < l.number → IfSome (slice_get l.structure.channels n) HasDistinctEnds
