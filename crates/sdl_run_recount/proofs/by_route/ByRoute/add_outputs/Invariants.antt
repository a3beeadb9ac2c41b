use Rattle.std.proofs.Common.{take}
use Rattle.sdl_forward_opening.specs.Workers.{ways_in}
use Rattle.sdl_forward_opening.specs.declared.worker.Worker.TheVariants.{Environment}
use Rattle.sdl_run_outcome.specs.EnvironmentWork.{env_sent}
use Rattle.sdl_run_recount.specs.Sorted.{lists_in, Gains}
use Rattle.sdl_run_recount.specs.Along.{starts_at, given}
use Rattle.sdl_run_recount.proofs.by_route.ByRoute.add_outputs.Given as goal

abbrev pub invariant-loop-output : goal.invariant-loop-output
invariant-loop-output l = Gains (λ r. given (starts_at (ways_in l.structure l.routes) Environment r) (env_sent (take l.output-index l.outputs))) (lists_in l.fn.self) (lists_in l.self)
