use Rattle.std.proofs.Common.{ℕ, ◌+◌, ◌≤◌, length, map, vec_len, vec_capacity}
use Rattle.sdl_routes.specs.declared.route.Station.{Station}
use Rattle.sdl_forward_ends.specs.Shelves.{IsUnderway}
use Rattle.sdl_forward_ends.proofs.shelf.ends_rejoin.Given as goal

abbrev pub invariant-loop-slots : goal.invariant-loop-slots
invariant-loop-slots g l = record {
  underway : IsUnderway l.fn.ends.items (map (λ (x : Station × ℕ). x.0) l.fn.shelf) l.slots.items l.rests.items l.ends.items;
  room : vec_len l.rests + length l.slots.items ≤ vec_capacity l.rests;
}

abbrev pub decreases-loop-slots : goal.decreases-loop-slots
decreases-loop-slots g l = length l.slots.items
