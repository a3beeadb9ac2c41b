use Rattle.std.proofs.Common.{◌≡◌, ◌++◌, length, map}
use Rattle.std.specs.List.{AllByRecursion}
use Rattle.sdl_transition_behaviour.specs.Transitions.{IsAllowed}
use Rattle.sdl_listing_body.specs.Sound.{IsSound}
use Rattle.sdl_listing_binding.specs.Answers.{IsAnswerIn}
use Rattle.sdl_listing_binding.specs.Parts.{transition_parts, listed_transitions}
use Rattle.sdl_listing_runs.proofs.runs.run_rows.Given as goal

abbrev pub invariant-loop-row : goal.invariant-loop-row
invariant-loop-row g l = record {
  can_next : (goal.iterator-loop-row g).can_next l.row-iterator;
  is_finite : (goal.iterator-loop-row g).is_finite l.row-iterator;
  all : l.yielded ++ l.row-iterator.rest.items ≡ g.K.Listing.rows;
  number : length l.yielded ≡ l.number;
  count : length l.stored.items ≡ l.number;
  parts : map transition_parts l.stored.items ++ listed_transitions l.number l.row-iterator.rest.items ≡ listed_transitions 0 g.K.Listing.rows;
  sound : AllByRecursion IsSound l.row-iterator.rest.items;
  allowed : AllByRecursion (IsAllowed (λ n f step. IsAnswerIn g.K.Listing.rows n f step)) l.stored.items;
}
