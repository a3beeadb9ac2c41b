use Rattle.std.proofs.Common.{◌≡◌, take, count_by}
use Rattle.sdl_structure_tables.specs.Names.{is_dot}
use Rattle.sdl_structure_tables.proofs.checks.count_dots.Given as goal

abbrev pub invariant-loop-byte : goal.invariant-loop-byte
invariant-loop-byte l = l.dots ≡ count_by is_dot (take l.byte-index l.text)
