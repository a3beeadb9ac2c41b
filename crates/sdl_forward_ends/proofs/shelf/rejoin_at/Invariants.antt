use Rattle.std.proofs.Common.{◌≡◌, ◌+◌, ◌≤◌, length, take, drop, vec_len, vec_capacity}
use Rattle.sdl_forward_ends.specs.Ends.{column, taps}
use Rattle.sdl_forward_ends.specs.Shelves.{without, partly, latest}
use Rattle.sdl_forward_ends.proofs.shelf.rejoin_at.Given as goal

abbrev pub invariant-loop-number : goal.invariant-loop-number
invariant-loop-number g l = record {
  so : l.ends.items ≡ partly (without l.station) l.number l.fn.ends.items;
  feeds : l.feeds.items ≡ column l.station (take l.number l.fn.ends.items);
  tap : l.tap ≡ latest (taps l.station (take l.number l.fn.ends.items));
  room : vec_len l.feeds + length (column l.station (drop l.number l.fn.ends.items)) ≤ vec_capacity l.feeds;
}
