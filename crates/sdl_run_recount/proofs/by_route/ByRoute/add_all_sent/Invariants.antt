use Rattle.std.proofs.Common.{take}
use Rattle.sdl_forward_opening.specs.Workers.{ways_in}
use Rattle.sdl_run_recount.specs.Sorted.{lists_in, Gains}
use Rattle.sdl_run_recount.specs.Along.{starts_at, given}
use Rattle.sdl_run_recount.proofs.by_route.ByRoute.add_all_sent.Given as goal

abbrev pub invariant-loop-item : goal.invariant-loop-item
invariant-loop-item l = Gains (λ r. given (starts_at (ways_in l.structure l.routes) l.worker r) (take l.item-index l.items)) (lists_in l.fn.self) (lists_in l.self)
