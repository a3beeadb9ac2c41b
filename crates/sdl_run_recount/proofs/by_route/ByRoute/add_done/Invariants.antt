use Rattle.std.proofs.Common.{take}
use Rattle.std.specs.List.{flat_map}
use Rattle.sdl_instances_log.specs.Log.{sent_by}
use Rattle.sdl_forward_opening.specs.Workers.{ways_in}
use Rattle.sdl_run_recount.specs.Sorted.{lists_in, Gains}
use Rattle.sdl_run_recount.specs.Along.{starts_at, given}
use Rattle.sdl_run_recount.proofs.by_route.ByRoute.add_done.Given as goal

abbrev pub invariant-loop-one : goal.invariant-loop-one
invariant-loop-one l = Gains (λ r. given (starts_at (ways_in l.structure l.routes) l.worker r) (flat_map sent_by (take l.one-index l.done))) (lists_in l.fn.self) (lists_in l.self)
