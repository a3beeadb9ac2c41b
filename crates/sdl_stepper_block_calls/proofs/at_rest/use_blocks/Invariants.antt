use Rattle.std.specs.List.{All}
use Rattle.sdl_forward.specs.Boards.{IsBoardOf}
use Rattle.sdl_stepper_block_calls.specs.Stored.{IsStored}
use Rattle.sdl_stepper_block_calls.proofs.at_rest.use_blocks.Given as goal

abbrev pub invariant-calls : goal.invariant-calls
invariant-calls g l = IsBoardOf l.site.place.routes.now l.desk.board × All (IsStored g.S.Agents.may l.site.checked.now) l.blocks.items
