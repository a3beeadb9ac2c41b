use Rattle.std.proofs.Common.{take}
use Rattle.sdl_forward.specs.Boards.{lists_of}
use Rattle.sdl_run_recount.specs.Sorted.{lists_in, Gains}
use Rattle.sdl_run_recount.specs.Along.{stands_at, laid}
use Rattle.sdl_run_recount.proofs.by_route.ByRoute.add_rests.Given as goal

abbrev pub invariant-loop-number : goal.invariant-loop-number
invariant-loop-number l = Gains (λ r. laid (λ s. stands_at l.routes l.place s r) (lists_of (take l.number l.rests))) (lists_in l.fn.self) (lists_in l.self)
