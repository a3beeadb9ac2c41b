use Rattle.std.proofs.Common.{◌≡◌, ◌+◌, length}
use Rattle.sdl_listing_file.specs.File.{IsListed, AreSlots, taken}
use Rattle.sdl_listing_file.specs.Walks.{file_of}
use Rattle.sdl_listing_file.proofs.SlotLemmas.{AreFree}
use Rattle.sdl_listing_file.proofs.behaviours.read_behaviour.Given as goal

abbrev pub invariant-loop-set : goal.invariant-loop-set
invariant-loop-set l = record {
  all : length l.slots.items ≡ length l.fn.slots.items;
  listed : AreSlots (IsListed l.structure l.constants (file_of l.walk)) l.slots.items;
  count : taken l.slots.items ≡ taken l.fn.slots.items + l.set-index;
  free : AreFree l.slots.items l.each l.set-index;
}
