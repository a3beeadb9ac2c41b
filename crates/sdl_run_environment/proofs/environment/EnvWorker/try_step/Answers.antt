use Rattle.std.proofs.Common.{Ok, Err, All, sym, subst}
use Rattle.sdl_signal.specs.Names.{Lexicon}
use Rattle.sdl_structure_parts.specs.Structure.{lexicon_of}
use Rattle.sdl_routes.specs.declared.route.Station.TheVariants.{Outlet}
use Rattle.sdl_forward.specs.Boards.{waiting}
use Rattle.sdl_forward.specs.OnBoard.{on_board}
use Rattle.sdl_run_environment.specs.EnvPhases.{IsWritable}
use Rattle.sdl_run_environment.proofs.EnvLegal.{all_writable}
use Rattle.sdl_run_environment.proofs.EnvSending.{sends_any, refused_none}
use Rattle.sdl_run_environment.proofs.EnvStepping.{board_ways, board_sent, board_after, outlet_after, steps_at_sending, steps_at_receiving, steps, read_after_receive, written_after_sending, written_then}
use Rattle.sdl_run_environment.proofs.EnvNext.{steps_on}
use Rattle.sdl_run_environment.proofs.environment.EnvWorker.try_step.Goals as goal

pub send_over-requires-clause-ways : goal.send_over-requires-clause-ways
send_over-requires-clause-ways g c =
    board_ways c.args.routes.now c.args.board.now c.requires.board

pub receive_one-requires : goal.receive_one-requires
receive_one-requires g c =
    let s = c.args.structure.now in
    let rows = c.args.routes.now in
    let old = c.args.self.now in
    let b0 = c.args.board.now in
    let mid = c.send_over.new.self in
    let b1 = c.send_over.new.queues in
    let sent = sends_any on_board s rows old.number (Ok c.in_ok-sent.sent) old b0 mid b1 c.in_ok-sent.ensures.sends c.requires.sound in
    let outlet = all_writable s rows old.number c.requires.structure c.requires.routes (waiting b1 Outlet) (outlet_after s rows old.number old b0 mid b1 sent c.requires.routes c.requires.sound c.requires.outlet) in
    record { outlet = subst (λ (x : Lexicon). All (IsWritable x rows) (waiting b1 Outlet)) (sym c.names.ensures) outlet }

pub returns-in_err-sent-clause-step : goal.returns-in_err-sent-clause-step
returns-in_err-sent-clause-step g c =
    let s = c.args.structure.now in
    let rows = c.args.routes.now in
    let old = c.args.self.now in
    let b0 = c.args.board.now in
    let mid = c.send_over.new.self in
    let b1 = c.send_over.new.queues in
    steps_at_sending s rows old.number old b0 mid b1 c.from_residual.result c.from_residual.ensures.0 c.in_err-sent.field-0.0 c.in_err-sent.ensures.sends

pub returns-in_err-received-clause-step : goal.returns-in_err-received-clause-step
returns-in_err-received-clause-step g c =
    let s = c.args.structure.now in
    let rows = c.args.routes.now in
    let old = c.args.self.now in
    let b0 = c.args.board.now in
    let mid = c.send_over.new.self in
    let b1 = c.send_over.new.queues in
    steps_at_receiving s rows old.number old b0 mid b1 c.in_ok-sent.sent c.in_ok-sent.ensures.sends c.requires.sound c.receive_one.new.self c.receive_one.new.board
    c.from_residual-in_err-received.result c.from_residual-in_err-received.ensures.0 c.in_err-received.field-0.0 c.in_err-received.ensures.received

pub returns-clause-step : goal.returns-clause-step
returns-clause-step g c =
    let s = c.args.structure.now in
    let rows = c.args.routes.now in
    let old = c.args.self.now in
    let b0 = c.args.board.now in
    let mid = c.send_over.new.self in
    let b1 = c.send_over.new.queues in
    steps s rows old.number old b0 mid b1 c.in_ok-sent.sent c.in_ok-sent.ensures.sends c.requires.sound c.receive_one.new.self c.receive_one.new.board c.in_ok-received.received c.in_ok-received.ensures.received

pub returns-in_err-sent-clause-on : goal.returns-in_err-sent-clause-on
returns-in_err-sent-clause-on g c =
    refused_none _ c.from_residual.result c.from_residual.ensures.0

pub returns-in_err-received-clause-on : goal.returns-in_err-received-clause-on
returns-in_err-received-clause-on g c =
    refused_none _ c.from_residual-in_err-received.result c.from_residual-in_err-received.ensures.0

pub returns-clause-on : goal.returns-clause-on
returns-clause-on g c =
    let s = c.args.structure.now in
    let rows = c.args.routes.now in
    let old = c.args.self.now in
    let b0 = c.args.board.now in
    let mid = c.send_over.new.self in
    let b1 = c.send_over.new.queues in
    let sent = sends_any on_board s rows old.number (Ok c.in_ok-sent.sent) old b0 mid b1 c.in_ok-sent.ensures.sends c.requires.sound in
    steps_on old mid b1 c.receive_one.new.self c.receive_one.new.board c.in_ok-received.received c.in_ok-sent.ensures.on sent.received c.in_ok-received.ensures.received

pub returns-in_err-received-clause-reading : goal.returns-in_err-received-clause-reading
returns-in_err-received-clause-reading g c =
    λ start read.
    let s = c.args.structure.now in
    let rows = c.args.routes.now in
    let old = c.args.self.now in
    let b0 = c.args.board.now in
    let mid = c.send_over.new.self in
    let b1 = c.send_over.new.queues in
    let now = g.R.Read.remaining c.send_over.new.input in
    read_after_receive (lexicon_of s) rows old.number start now (Err c.in_err-received.field-0.0) mid b1 c.receive_one.new.self c.receive_one.new.board c.in_err-received.ensures.received (c.in_ok-sent.ensures.reading start read)

pub returns-clause-reading : goal.returns-clause-reading
returns-clause-reading g c =
    λ start read.
    let s = c.args.structure.now in
    let rows = c.args.routes.now in
    let old = c.args.self.now in
    let b0 = c.args.board.now in
    let mid = c.send_over.new.self in
    let b1 = c.send_over.new.queues in
    let now = g.R.Read.remaining c.send_over.new.input in
    read_after_receive (lexicon_of s) rows old.number start now (Ok c.in_ok-received.received) mid b1 c.receive_one.new.self c.receive_one.new.board c.in_ok-received.ensures.received (c.in_ok-sent.ensures.reading start read)

pub returns-in_err-sent-clause-writing : goal.returns-in_err-sent-clause-writing
returns-in_err-sent-clause-writing g c =
    λ start wrote.
    let s = c.args.structure.now in
    let rows = c.args.routes.now in
    let old = c.args.self.now in
    let b0 = c.args.board.now in
    let mid = c.send_over.new.self in
    let b1 = c.send_over.new.queues in
    written_after_sending on_board s rows old.number start (g.W.Write.contents c.args.output.now) (Err c.in_err-sent.field-0.0) old b0 mid b1 c.in_err-sent.ensures.sends c.requires.sound wrote

pub returns-in_err-received-clause-writing : goal.returns-in_err-received-clause-writing
returns-in_err-received-clause-writing g c =
    λ start wrote.
    let s = c.args.structure.now in
    let rows = c.args.routes.now in
    let old = c.args.self.now in
    let b0 = c.args.board.now in
    let mid = c.send_over.new.self in
    let b1 = c.send_over.new.queues in
    let now = g.W.Write.contents c.args.output.now in
    let sent = written_after_sending on_board s rows old.number start now (Ok c.in_ok-sent.sent) old b0 mid b1 c.in_ok-sent.ensures.sends c.requires.sound wrote in
    written_then c.names.result.now (lexicon_of s) rows start now (g.W.Write.contents c.receive_one.new.output) mid c.receive_one.new.self c.names.ensures (c.in_err-received.ensures.writing start) sent

pub returns-clause-writing : goal.returns-clause-writing
returns-clause-writing g c =
    λ start wrote.
    let s = c.args.structure.now in
    let rows = c.args.routes.now in
    let old = c.args.self.now in
    let b0 = c.args.board.now in
    let mid = c.send_over.new.self in
    let b1 = c.send_over.new.queues in
    let now = g.W.Write.contents c.args.output.now in
    let sent = written_after_sending on_board s rows old.number start now (Ok c.in_ok-sent.sent) old b0 mid b1 c.in_ok-sent.ensures.sends c.requires.sound wrote in
    written_then c.names.result.now (lexicon_of s) rows start now (g.W.Write.contents c.receive_one.new.output) mid c.receive_one.new.self c.names.ensures (c.in_ok-received.ensures.writing start) sent

pub returns-in_err-sent-clause-board : goal.returns-in_err-sent-clause-board
returns-in_err-sent-clause-board g c =
    let s = c.args.structure.now in
    let rows = c.args.routes.now in
    let old = c.args.self.now in
    let b0 = c.args.board.now in
    let mid = c.send_over.new.self in
    let b1 = c.send_over.new.queues in
    board_sent s rows old.number (Err c.in_err-sent.field-0.0) old b0 mid b1 c.in_err-sent.ensures.sends c.requires.sound c.requires.board

pub returns-in_err-received-clause-board : goal.returns-in_err-received-clause-board
returns-in_err-received-clause-board g c =
    let s = c.args.structure.now in
    let rows = c.args.routes.now in
    let old = c.args.self.now in
    let b0 = c.args.board.now in
    let mid = c.send_over.new.self in
    let b1 = c.send_over.new.queues in
    board_after s rows old.number old b0 mid b1 c.in_ok-sent.sent c.in_ok-sent.ensures.sends c.requires.sound c.receive_one.new.self c.receive_one.new.board (Err c.in_err-received.field-0.0) c.in_err-received.ensures.received c.requires.board

pub returns-clause-board : goal.returns-clause-board
returns-clause-board g c =
    let s = c.args.structure.now in
    let rows = c.args.routes.now in
    let old = c.args.self.now in
    let b0 = c.args.board.now in
    let mid = c.send_over.new.self in
    let b1 = c.send_over.new.queues in
    board_after s rows old.number old b0 mid b1 c.in_ok-sent.sent c.in_ok-sent.ensures.sends c.requires.sound c.receive_one.new.self c.receive_one.new.board (Ok c.in_ok-received.received) c.in_ok-received.ensures.received c.requires.board
