use Rattle.std.proofs.Common.{◌≡◌, [], length, take, map}
use Rattle.sdl_listing_file.specs.Tables.{text_of}
use Rattle.sdl_listing_file.specs.File.{AreVariables}
use Rattle.sdl_listing_file.proofs.behaviours.variables_of.Given as goal

abbrev pub invariant-loop-item : goal.invariant-loop-item
invariant-loop-item l = record {
  read : AreVariables l.structure l.constants [] (take l.item (map text_of l.texts)) l.variables.items;
  long : length l.variables.items ≡ l.item;
}
