use Rattle.sdl_routes.specs.declared.route.Station.TheVariants.{Line}
use Rattle.sdl_forward.proofs.Onward.{next_passed}
use Rattle.sdl_forward.proofs.Sides.{forwards_so, board_still}
use Rattle.sdl_forward.proofs.forwarder.Forwarder.step_serial.Goals as goal

pub step_over-requires : goal.step_over-requires
step_over-requires c = λ i s next. c.requires.every s (next_passed c.args.routes.now (Line c.args.self.now.hop) i s next)

pub returns-clause-step : goal.returns-clause-step
returns-clause-step c = forwards_so c.args.routes.now c.args.self.now c.args.board.now c.step_over.result c.step_over.new.self c.step_over.new.queues c.step_over.ensures

pub returns-clause-board : goal.returns-clause-board
returns-clause-board c = board_still c.args.routes.now c.args.self.now c.args.board.now c.step_over.result c.step_over.new.self c.step_over.new.queues c.step_over.ensures c.requires
