use Rattle.sdl_structure_tables.specs.Walks.{file_of}
use Rattle.sdl_structure_parts.specs.Lists.{structure_of}
use Rattle.sdl_structure.proofs.WholeLemmas.{is_structure}
use Rattle.sdl_structure.proofs.FileLemmas.{legal_names}
use Rattle.sdl_structure.proofs.reading.file.read_system.Goals as goal

pub new-requires : goal.new-requires
new-requires c =
    let file = c.in_ok-system.ensures.ok in
    let s = structure_of c.in_ok-system.system c.in_ok-system.budget c.in_ok-system.lists in
    record { structure = is_structure (file_of c.top-top.result) s file.parts file.limits; legal = legal_names (file_of c.top-top.result) s file }
