use Rattle.std.proofs.Common.{◌≡◌}
use Rattle.sdl_forward.specs.Boards.{IsBoardOf}
use Rattle.sdl_instances.specs.Core.{IsSound}
use Rattle.sdl_instances.specs.CoreOf.{core_of, parts_of, system_in}
use Rattle.sdl_stepper_block_calls.proofs.cores.use_core.Given as goal

abbrev pub invariant-calls : goal.invariant-calls
invariant-calls g l = IsBoardOf l.site.place.routes.now l.desk.board × IsSound g.S.Agents.may (system_in l.core l.site.place.routes.now) (core_of l.core) × (parts_of l.core ≡ parts_of l.fn.core)
