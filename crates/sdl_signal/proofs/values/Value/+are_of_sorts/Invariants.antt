use Rattle.std.proofs.Common.{length}
use Rattle.sdl_signal.proofs.values.Value.+are_of_sorts.Given as goal

-- the values that are left
abbrev pub decreases-are_of_sorts : goal.decreases-are_of_sorts
decreases-are_of_sorts l = length l.values.now
