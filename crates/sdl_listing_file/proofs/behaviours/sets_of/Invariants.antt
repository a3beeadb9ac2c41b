use Rattle.std.proofs.Common.{◌≡◌, ◌≢◌, All, AllPairs, Some, None, length, slice_get}
use Rattle.sdl_listing_file.specs.declared.place.AgentsKey.TheVariants as key
use Rattle.sdl_listing_file.specs.Tables.{texts_at}
use Rattle.sdl_listing_file.specs.File.{IsNamedIn}
use Rattle.sdl_listing_file.specs.Walks.{own}
use Rattle.sdl_listing_file.proofs.behaviours.sets_of.Given as goal

abbrev pub invariant-loop-value : goal.invariant-loop-value
invariant-loop-value l = record {
  long : length l.sets.items ≡ l.value-index;
  named : All (IsNamedIn l.structure (texts_at key.Sets (own l.walk))) l.sets.items;
  free : All (λ set. slice_get l.slots set.0 ≡ Some None) l.sets.items;
  apart : AllPairs (λ x y. x.0 ≢ y.0) l.sets.items;
}
