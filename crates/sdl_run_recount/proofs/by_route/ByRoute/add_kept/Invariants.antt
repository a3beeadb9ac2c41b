use Rattle.std.proofs.Common.{take, map}
use Rattle.std.specs.Option.{option_to_list}
use Rattle.sdl_forward_opening.specs.Workers.{place}
use Rattle.sdl_run_outcome.specs.Lists.{held_in}
use Rattle.sdl_run_recount.specs.Sorted.{lists_in, Gains}
use Rattle.sdl_run_recount.specs.Along.{stands_at, gathered}
use Rattle.sdl_run_recount.proofs.by_route.ByRoute.add_kept.Given as goal

abbrev pub invariant-loop-number : goal.invariant-loop-number
invariant-loop-number l = Gains (λ r. gathered (λ w. stands_at l.routes l.place (place w) r) l.workers (map (λ h. option_to_list (held_in h).kept) (take l.number l.hands))) (lists_in l.fn.self) (lists_in l.self)
