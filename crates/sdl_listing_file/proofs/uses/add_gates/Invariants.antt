use Rattle.std.proofs.Common.{◌≡◌, ◌++◌, take}
use Rattle.std.specs.Prelude.{flat_map}
use Rattle.std.specs.List.{enumerate_from}
use Rattle.sdl_listing_file.specs.Uses.{use_of_gate}
use Rattle.sdl_listing_file.proofs.uses.add_gates.Given as goal

abbrev pub invariant-loop-number : goal.invariant-loop-number
invariant-loop-number l = l.uses.items ≡ l.fn.uses.items ++ flat_map (use_of_gate l.set) (take l.number (enumerate_from 0 l.gates))
