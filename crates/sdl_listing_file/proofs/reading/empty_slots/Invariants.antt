use Rattle.std.proofs.Common.{◌≡◌, length, None}
use Rattle.std.specs.List.{AllByRecursion}
use Rattle.sdl_listing_file.proofs.reading.empty_slots.Given as goal

abbrev pub invariant-loop : goal.invariant-loop
invariant-loop l = record {
  all : length l.slots.items ≡ l.counter;
  empty : AllByRecursion (λ slot. slot ≡ None) l.slots.items;
}
