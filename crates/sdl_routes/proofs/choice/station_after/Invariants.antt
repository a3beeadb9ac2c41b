use Rattle.std.proofs.Common.{◌≢◌, ℕ, ◌<◌, slice_get, Some}
use Rattle.sdl_routes.proofs.choice.station_after.Given as goal

abbrev pub invariant-loop-place : goal.invariant-loop-place
invariant-loop-place l = (k : ℕ) → k < l.place → slice_get l.stations k ≢ Some l.station
