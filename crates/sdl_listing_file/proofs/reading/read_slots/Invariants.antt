use Rattle.std.proofs.Common.{◌≡◌, length, take, map}
use Rattle.sdl_listing_file.specs.Tables.{table_in}
use Rattle.sdl_listing_file.specs.File.{IsListed, AreSlots, taken, sets_in}
use Rattle.sdl_listing_file.specs.Walks.{own}
use Rattle.sdl_listing_file.proofs.reading.read_slots.Given as goal

abbrev pub invariant-loop-number : goal.invariant-loop-number
invariant-loop-number l = record {
  all : length l.slots.items ≡ length l.structure.sets;
  listed : AreSlots (IsListed l.structure l.constants (own l.top)) l.slots.items;
  count : taken l.slots.items ≡ length (sets_in (take l.number (map table_in l.behaviours)));
}
