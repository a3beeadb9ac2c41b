use Rattle.std.proofs.Common.{[], take, map}
use Rattle.sdl_listing_file.specs.Tables.{text_of}
use Rattle.sdl_listing_file.specs.File.{AreConstants}
use Rattle.sdl_listing_file.proofs.reading.constants_of.Given as goal

abbrev pub invariant-loop-item : goal.invariant-loop-item
invariant-loop-item l = AreConstants l.structure [] (take l.item (map text_of l.texts)) l.constants.items
