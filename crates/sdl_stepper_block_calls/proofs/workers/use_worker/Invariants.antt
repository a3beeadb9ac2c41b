use Rattle.std.proofs.Common.{◌≡◌}
use Rattle.sdl_forward.specs.Boards.{IsBoardOf}
use Rattle.sdl_block.specs.Workers.{behaviours_of}
use Rattle.sdl_stepper_block_calls.specs.Stored.{CanGoOn}
use Rattle.sdl_stepper_block_calls.proofs.workers.use_worker.Given as goal

abbrev pub invariant-calls : goal.invariant-calls
invariant-calls g l = IsBoardOf l.site.place.routes.now l.desk.board × CanGoOn g.S.Agents.may l.worker l.site.place.routes.now × (behaviours_of l.worker ≡ behaviours_of l.fn.worker)
