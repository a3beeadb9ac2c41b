use Rattle.std.proofs.Common.{◌≡◌, take, map}
use Rattle.sdl_listing_file.specs.Tables.{text_of}
use Rattle.sdl_listing_file.specs.File.{bytes_of, first_seen}
use Rattle.sdl_listing_file.proofs.groups.add_states.Given as goal

abbrev pub invariant-loop-value : goal.invariant-loop-value
invariant-loop-value l = bytes_of l.states.items ≡ first_seen (bytes_of l.fn.states.items) (take l.value-index (map text_of l.texts))
