use Rattle.std.proofs.Common.{rules}
use Rattle.sdl_structure_tables.proofs.FaultLemmas.{taken}
use Rattle.sdl_structure_tables.proofs.walk.Walk.new_name.Goals as goal

pub returns-in-Some-clause-fault : goal.returns-in-Some-clause-fault
returns-in-Some-clause-fault c =
    let found = rw (c.as_slice.ensures.value, c.as_str.ensures.value) at c.in-Some.ensures.found in
    taken _ _ _ c.in-Some.field-0 c.in_ok-name.name.bytes c.requires.here c.requires.listed c.at.ensures c.requires.before c.in_ok-name.ensures.held found.0 found.1
