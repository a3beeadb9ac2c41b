use Rattle.std.proofs.Common.{Ok, Err}
use Rattle.sdl_forward.specs.ByEnds.{by_ends, same_then}
use Rattle.sdl_run_environment.proofs.EnvSending.{refused_none}
use Rattle.sdl_run_environment.proofs.EnvReceiving.{steps_at_sending, steps_at_receiving, steps_apart, steps_on, takes_after_sending, read_after_receiving, same_after_sending}
use Rattle.sdl_run_environment.proofs.EnvStepping.{written_after_sending}
use Rattle.sdl_run_environment.proofs.apart.EnvApart.try_step.Goals as goal

pub returns-in_err-sent-clause-step : goal.returns-in_err-sent-clause-step
returns-in_err-sent-clause-step g c =
    let s = c.args.routed.structure.now in
    let rows = c.args.routed.routes.now in
    let old = c.args.self.now.worker in
    let e0 = c.args.ends.now in
    let mid = c.send_over.new.self in
    let e1 = c.send_over.new.queues in
    steps_at_sending s rows old.number old e0 mid e1 c.from_residual.result c.from_residual.ensures.0 c.args.self.now.astray c.requires.none c.in_err-sent.field-0.0 c.in_err-sent.ensures.sends

pub returns-in_err-received-clause-step : goal.returns-in_err-received-clause-step
returns-in_err-received-clause-step g c =
    let s = c.args.routed.structure.now in
    let rows = c.args.routed.routes.now in
    let old = c.args.self.now.worker in
    let e0 = c.args.ends.now in
    let mid = c.send_over.new.self in
    let e1 = c.send_over.new.queues in
    steps_at_receiving s rows old.number old e0 mid e1 c.in_ok-sent.sent c.in_ok-sent.ensures.sends c.requires.sound c.receive_one_apart.new.self c.receive_one_apart.new.astray c.receive_one_apart.new.ends
    c.from_residual-in_err-received.result c.from_residual-in_err-received.ensures.0 c.in_err-received.field-0.0 c.in_err-received.ensures.received

pub returns-clause-step : goal.returns-clause-step
returns-clause-step g c =
    let s = c.args.routed.structure.now in
    let rows = c.args.routed.routes.now in
    let old = c.args.self.now.worker in
    let e0 = c.args.ends.now in
    let mid = c.send_over.new.self in
    let e1 = c.send_over.new.queues in
    steps_apart s rows old.number old e0 mid e1 c.in_ok-sent.sent c.in_ok-sent.ensures.sends c.requires.sound c.receive_one_apart.new.self c.receive_one_apart.new.astray c.receive_one_apart.new.ends c.in_ok-received.received c.in_ok-received.ensures.received

pub returns-in_err-sent-clause-on : goal.returns-in_err-sent-clause-on
returns-in_err-sent-clause-on g c =
    refused_none _ c.from_residual.result c.from_residual.ensures.0

pub returns-in_err-received-clause-on : goal.returns-in_err-received-clause-on
returns-in_err-received-clause-on g c =
    refused_none _ c.from_residual-in_err-received.result c.from_residual-in_err-received.ensures.0

pub returns-clause-on : goal.returns-clause-on
returns-clause-on g c =
    let s = c.args.routed.structure.now in
    let rows = c.args.routed.routes.now in
    let old = c.args.self.now.worker in
    let e0 = c.args.ends.now in
    let mid = c.send_over.new.self in
    let e1 = c.send_over.new.queues in
    steps_on s rows old.number c.in_ok-received.received old mid e1 c.receive_one_apart.new.self c.receive_one_apart.new.astray c.receive_one_apart.new.ends c.in_ok-sent.ensures.on c.in_ok-received.ensures.received

pub returns-in_err-sent-clause-taken : goal.returns-in_err-sent-clause-taken
returns-in_err-sent-clause-taken g c =
    refused_none _ c.from_residual.result c.from_residual.ensures.0

pub returns-in_err-received-clause-taken : goal.returns-in_err-received-clause-taken
returns-in_err-received-clause-taken g c =
    refused_none _ c.from_residual-in_err-received.result c.from_residual-in_err-received.ensures.0

pub returns-clause-taken : goal.returns-clause-taken
returns-clause-taken g c =
    let s = c.args.routed.structure.now in
    let rows = c.args.routed.routes.now in
    let old = c.args.self.now.worker in
    let e0 = c.args.ends.now in
    let mid = c.send_over.new.self in
    let e1 = c.send_over.new.queues in
    takes_after_sending s rows old.number c.receive_one_apart.new.room.value c.in_ok-sent.sent c.in_ok-received.received old e0 mid e1 c.receive_one_apart.new.self c.receive_one_apart.new.astray c.receive_one_apart.new.ends
    c.in_ok-sent.ensures.sends c.requires.sound c.in_ok-received.ensures.received c.in_ok-received.ensures.room

pub returns-in_err-received-clause-reading : goal.returns-in_err-received-clause-reading
returns-in_err-received-clause-reading g c =
    λ start read.
    let s = c.args.routed.structure.now in
    let rows = c.args.routed.routes.now in
    let old = c.args.self.now.worker in
    let e0 = c.args.ends.now in
    let mid = c.send_over.new.self in
    let e1 = c.send_over.new.queues in
    let now = g.R.Read.remaining c.send_over.new.input in
    read_after_receiving s rows old.number old.number start now (Err c.in_err-received.field-0.0) mid e1 c.receive_one_apart.new.self c.receive_one_apart.new.astray c.receive_one_apart.new.ends c.in_err-received.ensures.received (c.in_ok-sent.ensures.reading start read)

pub returns-clause-reading : goal.returns-clause-reading
returns-clause-reading g c =
    λ start read.
    let s = c.args.routed.structure.now in
    let rows = c.args.routed.routes.now in
    let old = c.args.self.now.worker in
    let e0 = c.args.ends.now in
    let mid = c.send_over.new.self in
    let e1 = c.send_over.new.queues in
    let now = g.R.Read.remaining c.send_over.new.input in
    read_after_receiving s rows old.number old.number start now (Ok c.in_ok-received.received) mid e1 c.receive_one_apart.new.self c.receive_one_apart.new.astray c.receive_one_apart.new.ends c.in_ok-received.ensures.received (c.in_ok-sent.ensures.reading start read)

pub returns-in_err-sent-clause-writing : goal.returns-in_err-sent-clause-writing
returns-in_err-sent-clause-writing g c =
    λ start wrote.
    let s = c.args.routed.structure.now in
    let rows = c.args.routed.routes.now in
    let old = c.args.self.now.worker in
    let e0 = c.args.ends.now in
    let mid = c.send_over.new.self in
    let e1 = c.send_over.new.queues in
    let now = g.W.Write.contents c.args.output.now in
    written_after_sending by_ends s rows old.number start now (Err c.in_err-sent.field-0.0) old e0 mid e1 c.in_err-sent.ensures.sends c.requires.sound wrote

pub returns-in_err-received-clause-writing : goal.returns-in_err-received-clause-writing
returns-in_err-received-clause-writing g c =
    λ start wrote.
    let s = c.args.routed.structure.now in
    let rows = c.args.routed.routes.now in
    let old = c.args.self.now.worker in
    let e0 = c.args.ends.now in
    let mid = c.send_over.new.self in
    let e1 = c.send_over.new.queues in
    let now = g.W.Write.contents c.args.output.now in
    c.in_err-received.ensures.writing start (written_after_sending by_ends s rows old.number start now (Ok c.in_ok-sent.sent) old e0 mid e1 c.in_ok-sent.ensures.sends c.requires.sound wrote)

pub returns-clause-writing : goal.returns-clause-writing
returns-clause-writing g c =
    λ start wrote.
    let s = c.args.routed.structure.now in
    let rows = c.args.routed.routes.now in
    let old = c.args.self.now.worker in
    let e0 = c.args.ends.now in
    let mid = c.send_over.new.self in
    let e1 = c.send_over.new.queues in
    let now = g.W.Write.contents c.args.output.now in
    c.in_ok-received.ensures.writing start (written_after_sending by_ends s rows old.number start now (Ok c.in_ok-sent.sent) old e0 mid e1 c.in_ok-sent.ensures.sends c.requires.sound wrote)

pub returns-in_err-sent-clause-ends : goal.returns-in_err-sent-clause-ends
returns-in_err-sent-clause-ends g c =
    let s = c.args.routed.structure.now in
    let rows = c.args.routed.routes.now in
    let old = c.args.self.now.worker in
    let e0 = c.args.ends.now in
    let mid = c.send_over.new.self in
    let e1 = c.send_over.new.queues in
    same_after_sending s rows old.number (Err c.in_err-sent.field-0.0) old e0 mid e1 c.in_err-sent.ensures.sends c.requires.sound

pub returns-in_err-received-clause-ends : goal.returns-in_err-received-clause-ends
returns-in_err-received-clause-ends g c =
    let s = c.args.routed.structure.now in
    let rows = c.args.routed.routes.now in
    let old = c.args.self.now.worker in
    let e0 = c.args.ends.now in
    let mid = c.send_over.new.self in
    let e1 = c.send_over.new.queues in
    same_then e0 e1 c.receive_one_apart.new.ends (same_after_sending s rows old.number (Ok c.in_ok-sent.sent) old e0 mid e1 c.in_ok-sent.ensures.sends c.requires.sound) c.receive_one_apart.ensures.ends

pub returns-clause-ends : goal.returns-clause-ends
returns-clause-ends g c =
    let s = c.args.routed.structure.now in
    let rows = c.args.routed.routes.now in
    let old = c.args.self.now.worker in
    let e0 = c.args.ends.now in
    let mid = c.send_over.new.self in
    let e1 = c.send_over.new.queues in
    same_then e0 e1 c.receive_one_apart.new.ends (same_after_sending s rows old.number (Ok c.in_ok-sent.sent) old e0 mid e1 c.in_ok-sent.ensures.sends c.requires.sound) c.receive_one_apart.ensures.ends
