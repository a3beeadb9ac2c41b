use Rattle.std.proofs.Common.{◌≡◌, length, drop}
use Rattle.std.specs.Vec.Iter.{into_iter_items}
use Rattle.sdl_forward_opening.specs.Puts.{count_true}
use Rattle.sdl_forward_opening.specs.Hands.{distributed}
use Rattle.sdl_forward_opening.proofs.Distributing.{rest_distributed}
use Rattle.sdl_forward_opening.proofs.shares.distribute.Given as goal

abbrev pub invariant-loop-place : goal.invariant-loop-place
invariant-loop-place l = record {
  so : rest_distributed l.station l.place l.marks (into_iter_items l.feeds) l.shares.items ≡ distributed l.station l.marks l.fn.feeds.items l.fn.shares.items;
  rest : count_true (drop l.place l.marks) ≡ length (into_iter_items l.feeds);
  each : length l.shares.items ≡ length l.marks;
}
