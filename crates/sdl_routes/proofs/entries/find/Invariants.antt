use Rattle.std.proofs.Common.{◌≢◌, ℕ, map, get_or, ◌<◌}
use Rattle.sdl_routes.proofs.entries.find.Given as goal

abbrev pub invariant-loop-place : goal.invariant-loop-place
invariant-loop-place l = (k : ℕ) → k < l.place → get_or (map (λ e. e.wish) l.entries) k l.wish ≢ l.wish
