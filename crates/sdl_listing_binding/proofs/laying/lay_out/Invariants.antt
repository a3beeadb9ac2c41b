use Rattle.std.proofs.Common.{◌≡◌, ◌++◌, map}
use Rattle.sdl_listing_binding.specs.Answers.{rows_of}
use Rattle.sdl_listing_binding.specs.Parts.{head_parts, listed_head}
use Rattle.sdl_listing_binding.proofs.laying.lay_out.Given as goal

abbrev pub invariant-loop-listed : goal.invariant-loop-listed
invariant-loop-listed l = record {
  can_next : goal.iterator-loop-listed.can_next l.listed-iterator;
  is_finite : goal.iterator-loop-listed.is_finite l.listed-iterator;
  heads : map head_parts l.heads.items ++ map listed_head l.listed-iterator.rest.items ≡ map listed_head l.fn.listing.items;
  rows : l.rows.items ++ rows_of l.listed-iterator.rest.items ≡ rows_of l.fn.listing.items;
}
