use Rattle.std.proofs.Common.{◌≡◌, ◌++◌, take}
use Rattle.sdl_instances_copies.proofs.copies.add_values.Given as goal

abbrev pub invariant-loop-value : goal.invariant-loop-value
invariant-loop-value g l = l.to.items ≡ l.fn.to.items ++ take l.value-index l.fn.values
