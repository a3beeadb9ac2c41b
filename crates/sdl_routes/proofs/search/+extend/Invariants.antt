use Rattle.std.proofs.Common.{◌-◌, length, [], ◌∷◌, ◌++◌}
use Rattle.sdl_routes.specs.Routes.{place}
use Rattle.sdl_routes.specs.Collected.{HasCollected}
use Rattle.sdl_routes.proofs.search.+extend.Given as goal

abbrev pub decreases-extend : goal.decreases-extend
decreases-extend l = 9 - length l.hops.now

abbrev pub invariant-loop-number : goal.invariant-loop-number
invariant-loop-number l = HasCollected l.structure (place l.signal l.hops ++ l.number ∷ []) l.collected
