use Rattle.std.proofs.Common.{take}
use Rattle.sdl_forward_opening.specs.Workers.{ways_in}
use Rattle.sdl_forward_opening.specs.declared.worker.Worker.TheVariants.{Environment}
use Rattle.sdl_run_recount.specs.Sorted.{lists_in, Gains}
use Rattle.sdl_run_recount.specs.Along.{ends_at, given}
use Rattle.sdl_run_recount.proofs.by_route.ByRoute.add_received.Given as goal

abbrev pub invariant-loop-item : goal.invariant-loop-item
invariant-loop-item l = Gains (λ r. given (ends_at (ways_in l.structure l.routes) Environment r) (take l.item-index l.received)) (lists_in l.fn.self) (lists_in l.self)
