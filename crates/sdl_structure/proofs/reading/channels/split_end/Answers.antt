use Rattle.std.proofs.Common.{arith, ◌≡◌, length}
use Rattle.std.specs.List.{position_or_len}
use Rattle.std.proofs.lemmas.Str.Pattern.{split_once_first}
use Rattle.sdl_structure_tables.specs.Names.{is_dot}
use Rattle.sdl_structure.proofs.ChannelLemmas.{no_dot}
use Rattle.sdl_structure.proofs.reading.channels.split_end.Goals as goal

pub unreachable-requires : goal.unreachable-requires
unreachable-requires c =
    let none : position_or_len is_dot c.args.text.now ≡ length c.args.text.now = rw c.in-None.is at (split_once_first 46 c.args.text.now c.split_once.result c.split_once.ensures.cases (omega arith)) in
    let no = no_dot c.args.text.now none in
    absurd (omega (arith, no, c.requires))
