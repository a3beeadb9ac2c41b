use Rattle.std.proofs.Common.{take, map}
use Rattle.sdl_forward_opening.specs.Workers.{ways_in}
use Rattle.sdl_run_outcome.specs.Lists.{held_in}
use Rattle.sdl_run_recount.specs.Sorted.{lists_in, Gains}
use Rattle.sdl_run_recount.specs.Along.{starts_at, gathered}
use Rattle.sdl_run_recount.proofs.by_route.ByRoute.add_outgoing.Given as goal

abbrev pub invariant-loop-number : goal.invariant-loop-number
invariant-loop-number l = Gains (λ r. gathered (λ w. starts_at (ways_in l.structure l.routes) w r) l.workers (map (λ h. (held_in h).outgoing) (take l.number l.hands))) (lists_in l.fn.self) (lists_in l.self)
