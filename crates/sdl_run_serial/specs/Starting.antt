-- What stands at the start of a run.
use Rattle.std.specs.Prelude.{None}
use Rattle.sdl_routes.specs.declared.route.Hop.{Hop}
use Rattle.sdl_forward.specs.Forwards.{Forwarding}

-- the forwarder of the path, which holds nothing
abbrev pub idle_at : Hop → Forwarding
idle_at h = record { hop = h; held = None }
