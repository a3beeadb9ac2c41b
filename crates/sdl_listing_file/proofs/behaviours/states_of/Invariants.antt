use Rattle.std.proofs.Common.{◌≡◌, [], take, map}
use Rattle.sdl_listing_file.specs.Tables.{table_in}
use Rattle.sdl_listing_file.specs.File.{bytes_of, first_seen, names_in}
use Rattle.sdl_listing_file.proofs.behaviours.states_of.Given as goal

abbrev pub invariant-loop-number : goal.invariant-loop-number
invariant-loop-number l = bytes_of l.states.items ≡ first_seen [] (names_in (take l.number (map table_in l.groups)))
