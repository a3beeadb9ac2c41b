use Rattle.std.proofs.Common.{map}
use Rattle.std.specs.Option.{option_to_list}
use Rattle.sdl_forward.specs.Boards.{lists_of}
use Rattle.sdl_run_outcome.specs.Lists.{held_in}
use Rattle.sdl_run_recount.proofs.Places.{IsPassed}
use Rattle.sdl_run_recount.proofs.trail.Trail.add_standing.Given as goal

abbrev pub invariant-loop-passed : goal.invariant-loop-passed
invariant-loop-passed l = IsPassed l.routes l.workers (map (λ h. option_to_list (held_in h).kept) l.hands) (lists_of l.rests) 10 l.passed l.fn.self l.self
