-- Who takes at a station. (This project's own.)
use Rattle.std.specs.Prelude.{ℕ, List, ◌∷◌, ◌++◌, map}
use Rattle.sdl_routes.specs.declared.route.Hop.{Hop}
use Rattle.sdl_forward_opening.specs.declared.worker.Worker.{Worker}
use Rattle.sdl_forward_opening.specs.declared.worker.Worker.TheVariants.{Environment, Forwarder}
use Rattle.sdl_forward_opening.specs.Workers.{blocks_from}

-- the workers by number: so many blocks, the environment, the forwarders of these paths
abbrev pub workers_with : ℕ → List Hop → List Worker
workers_with blocks hops = blocks_from 0 blocks ++ Environment ∷ map Forwarder hops
