-- `dyn-1` stands for the closures of the block's transitions.
use denote.Exit
use denote.Param.{param}
use denote.Param.Send.{sendable, param_send, arg_send}
use denote.Param.Object
use Rattle.sdl_run_threads.proofs.Crossings
use Rattle.sdl_run_threads.specs.contracts.workers.run_workers.dyn-1 as dyn
use Rattle.sdl_run_threads.proofs.workers.run_workers.Goals as goal

pub run_all-requires-send-B : goal.run_all-requires-send-B
run_all-requires-send-B g c κs within =
    param_send _ _ (arg_send _ Exit.no _ (Crossings.block_thread (param 0 g.row.S) (Object.Vt (dyn.slots g.row.S g.row.K g.row.E g.row.G g.row.R) g.dyn-1.0) (Object.ghosts_of (dyn.slots g.row.S g.row.K g.row.E g.row.G g.row.R) g.dyn-1.0 g.dyn-1.1) _ c.type_bounds.send-S (search sendable) g.dyn-1.2 (param 1 g.row.K) g.K.LogStore c.type_bounds.send-K))
