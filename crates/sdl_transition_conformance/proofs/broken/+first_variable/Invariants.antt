use Rattle.std.proofs.Common.{length}
use Rattle.sdl_transition_conformance.proofs.broken.+first_variable.Given as goal

-- the variables that are left
abbrev pub decreases-first_variable : goal.decreases-first_variable
decreases-first_variable l = length l.values.now
