use Rattle.std.proofs.Common.{◌≡◌, ◌++◌, length, map}
use Rattle.std.specs.List.{AllByRecursion}
use Rattle.sdl_listing_binding.specs.Parts.{head_parts, behaviour_head, all_transitions, count_of, IsByOffer}
use Rattle.sdl_listing_binding.proofs.behaviours.behaviours_of.Given as goal

abbrev pub invariant-loop-head : goal.invariant-loop-head
invariant-loop-head g l = record {
  can_next : (goal.iterator-loop-head g).can_next l.head-iterator;
  is_finite : (goal.iterator-loop-head g).is_finite l.head-iterator;
  count : length l.left.items ≡ count_of (map head_parts l.head-iterator.rest.items);
  heads : map behaviour_head l.made.items ++ map head_parts l.head-iterator.rest.items ≡ map head_parts l.fn.heads.items;
  taken : all_transitions l.made.items ++ l.left.items ≡ l.fn.transitions.items;
  by_offer : AllByRecursion (λ b. AllByRecursion IsByOffer b.rows.items) l.made.items;
}
