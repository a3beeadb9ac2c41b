use Rattle.std.proofs.Common.{Ok, Err, ap, subst, sym}
use Rattle.sdl_transition.specs.Rules.{block_rules}
use Rattle.sdl_instances.specs.Machine.{System}
use Rattle.sdl_instances.specs.Core.{IsSound}
use Rattle.sdl_block.specs.Around.{Turn, GoesThrough, around, at_put, at_arrival, at_turn, at_last, whole}
use Rattle.sdl_block.specs.Workers.{worker_of, system_around}
use Rattle.sdl_block.proofs.Going.{routed}
use Rattle.sdl_block.proofs.Keeps.{turn_ways, ways_then}
use Rattle.sdl_block.proofs.Ran.{out_so, refused_so, arrived_so}
use Rattle.sdl_block.proofs.Stepping.{holding, legal_after}
use Rattle.sdl_block.proofs.Systems.{same_system}
use Rattle.sdl_block.proofs.worker.BlockWorker.try_step.Goals as goal

pub put_out-requires-clause-routed : goal.put_out-requires-clause-routed
put_out-requires-clause-routed g c =
    routed (system_around c.args.self.now c.args.routes.now) c.args.self.now.hand.outgoing.items c.requires.legal

pub make_turn-requires-clause-parts : goal.make_turn-requires-clause-parts
make_turn-requires-clause-parts g c =
    rw c.let_one_arrive.ensures.parts c.requires.parts

pub make_turn-requires-clause-sound : goal.make_turn-requires-clause-sound
make_turn-requires-clause-sound g c =
    let may = g.S.Agents.may in
    let q = g.Q.Queues.relations in
    let sys = system_around c.args.self.now c.args.routes.now in
    let old = worker_of c.args.self.now in
    let here = around q c.args.routes.now old.core in
    let put = holding old.core c.put_out.new.self.kept c.put_out.new.self.outgoing.items in
    let out = out_so q c.args.routes.now old.core old c.args.queues.now (Ok c.in_ok-put.put) c.put_out.new.self.kept c.put_out.new.self.outgoing.items c.put_out.new.queues c.in_ok-put.ensures.put c.in_ok-put.ensures.kept in
    let arrived = worker_of c.let_one_arrive.new.self in
    let so = arrived_so may sys here c.args.pick old c.args.queues.now c.in_ok-put.put put c.put_out.new.queues c.in_ok-arrived.arrived arrived c.let_one_arrive.new.queues out c.in_ok-arrived.ensures.arrived c.requires.sound in
    let same = same_system old.core arrived.core c.args.routes.now _ _ so.rest (ap (λ p. block_rules p) c.let_one_arrive.ensures.parts) in
    subst (λ (s : System). IsSound may s arrived.core) (sym same) so.sound

pub make_turn-requires-clause-hand : goal.make_turn-requires-clause-hand
make_turn-requires-clause-hand g c =
    let may = g.S.Agents.may in
    let q = g.Q.Queues.relations in
    let sys = system_around c.args.self.now c.args.routes.now in
    let old = worker_of c.args.self.now in
    let here = around q c.args.routes.now old.core in
    let put = holding old.core c.put_out.new.self.kept c.put_out.new.self.outgoing.items in
    let out = out_so q c.args.routes.now old.core old c.args.queues.now (Ok c.in_ok-put.put) c.put_out.new.self.kept c.put_out.new.self.outgoing.items c.put_out.new.queues c.in_ok-put.ensures.put c.in_ok-put.ensures.kept in
    let arrived = worker_of c.let_one_arrive.new.self in
    let so = arrived_so may sys here c.args.pick old c.args.queues.now c.in_ok-put.put put c.put_out.new.queues c.in_ok-arrived.arrived arrived c.let_one_arrive.new.queues out c.in_ok-arrived.ensures.arrived c.requires.sound in
    so.empty

pub put_out-requires-2-clause-routed : goal.put_out-requires-2-clause-routed
put_out-requires-2-clause-routed g c =
    let may = g.S.Agents.may in
    let q = g.Q.Queues.relations in
    let sys = system_around c.args.self.now c.args.routes.now in
    let old = worker_of c.args.self.now in
    let here = around q c.args.routes.now old.core in
    let put = holding old.core c.put_out.new.self.kept c.put_out.new.self.outgoing.items in
    let out = out_so q c.args.routes.now old.core old c.args.queues.now (Ok c.in_ok-put.put) c.put_out.new.self.kept c.put_out.new.self.outgoing.items c.put_out.new.queues c.in_ok-put.ensures.put c.in_ok-put.ensures.kept in
    let arrived = worker_of c.let_one_arrive.new.self in
    let so = arrived_so may sys here c.args.pick old c.args.queues.now c.in_ok-put.put put c.put_out.new.queues c.in_ok-arrived.arrived arrived c.let_one_arrive.new.queues out c.in_ok-arrived.ensures.arrived c.requires.sound in
    let same = same_system old.core arrived.core c.args.routes.now _ _ so.rest (ap (λ p. block_rules p) c.let_one_arrive.ensures.parts) in
    let turned = worker_of c.make_turn.new.self in
    let made = subst (λ (s : System). Turn may s c.args.pick arrived (Ok c.in_ok-turned.turned) turned) same (c.in_ok-turned.ensures.turn, c.in_ok-turned.ensures.pick) in
    routed sys turned.outgoing (legal_after may sys c.in_ok-turned.turned arrived turned made.0 so.empty)

pub put_out-requires-2-clause-ways : goal.put_out-requires-2-clause-ways
put_out-requires-2-clause-ways g c =
    let may = g.S.Agents.may in
    let q = g.Q.Queues.relations in
    let sys = system_around c.args.self.now c.args.routes.now in
    let old = worker_of c.args.self.now in
    let here = around q c.args.routes.now old.core in
    let put = holding old.core c.put_out.new.self.kept c.put_out.new.self.outgoing.items in
    let out = out_so q c.args.routes.now old.core old c.args.queues.now (Ok c.in_ok-put.put) c.put_out.new.self.kept c.put_out.new.self.outgoing.items c.put_out.new.queues c.in_ok-put.ensures.put c.in_ok-put.ensures.kept in
    let arrived = worker_of c.let_one_arrive.new.self in
    let so = arrived_so may sys here c.args.pick old c.args.queues.now c.in_ok-put.put put c.put_out.new.queues c.in_ok-arrived.arrived arrived c.let_one_arrive.new.queues out c.in_ok-arrived.ensures.arrived c.requires.sound in
    let same = same_system old.core arrived.core c.args.routes.now _ _ so.rest (ap (λ p. block_rules p) c.let_one_arrive.ensures.parts) in
    let turned = worker_of c.make_turn.new.self in
    let made = subst (λ (s : System). Turn may s c.args.pick arrived (Ok c.in_ok-turned.turned) turned) same (c.in_ok-turned.ensures.turn, c.in_ok-turned.ensures.pick) in
    turn_ways q may sys c.in_ok-turned.turned arrived turned c.let_one_arrive.new.queues made.0 so.empty (ways_then q may sys old c.args.queues.now arrived c.let_one_arrive.new.queues c.requires.ways so.going)

pub returns-in_err-put-clause-phases : goal.returns-in_err-put-clause-phases
returns-in_err-put-clause-phases g c =
    let may = g.S.Agents.may in
    let q = g.Q.Queues.relations in
    let sys = system_around c.args.self.now c.args.routes.now in
    let old = worker_of c.args.self.now in
    let here = around q c.args.routes.now old.core in
    let put = holding old.core c.put_out.new.self.kept c.put_out.new.self.outgoing.items in
    let out = out_so q c.args.routes.now old.core old c.args.queues.now (Err c.in_err-put.field-0.0) c.put_out.new.self.kept c.put_out.new.self.outgoing.items c.put_out.new.queues c.in_err-put.ensures.put c.in_err-put.ensures.kept in
    refused_so c.from_residual.result c.from_residual.ensures.0 (λ result. GoesThrough may sys here c.args.pick old c.args.queues.now result put c.put_out.new.queues)
    (λ r. at_put r c.in_err-put.field-0.0 put c.put_out.new.queues out)

pub returns-in_err-arrived-clause-phases : goal.returns-in_err-arrived-clause-phases
returns-in_err-arrived-clause-phases g c =
    let may = g.S.Agents.may in
    let q = g.Q.Queues.relations in
    let sys = system_around c.args.self.now c.args.routes.now in
    let old = worker_of c.args.self.now in
    let here = around q c.args.routes.now old.core in
    let put = holding old.core c.put_out.new.self.kept c.put_out.new.self.outgoing.items in
    let out = out_so q c.args.routes.now old.core old c.args.queues.now (Ok c.in_ok-put.put) c.put_out.new.self.kept c.put_out.new.self.outgoing.items c.put_out.new.queues c.in_ok-put.ensures.put c.in_ok-put.ensures.kept in
    let arrived = worker_of c.let_one_arrive.new.self in
    refused_so c.from_residual-in_err-arrived.result c.from_residual-in_err-arrived.ensures.0 (λ result. GoesThrough may sys here c.args.pick old c.args.queues.now result arrived c.let_one_arrive.new.queues)
    (λ r. at_arrival r c.in_err-arrived.field-0.0 c.in_ok-put.put put c.put_out.new.queues arrived c.let_one_arrive.new.queues out (c.in_err-arrived.ensures.arrived, c.in_err-arrived.ensures.pick))

pub returns-in_err-turned-clause-phases : goal.returns-in_err-turned-clause-phases
returns-in_err-turned-clause-phases g c =
    let may = g.S.Agents.may in
    let q = g.Q.Queues.relations in
    let sys = system_around c.args.self.now c.args.routes.now in
    let old = worker_of c.args.self.now in
    let here = around q c.args.routes.now old.core in
    let put = holding old.core c.put_out.new.self.kept c.put_out.new.self.outgoing.items in
    let out = out_so q c.args.routes.now old.core old c.args.queues.now (Ok c.in_ok-put.put) c.put_out.new.self.kept c.put_out.new.self.outgoing.items c.put_out.new.queues c.in_ok-put.ensures.put c.in_ok-put.ensures.kept in
    let arrived = worker_of c.let_one_arrive.new.self in
    let so = arrived_so may sys here c.args.pick old c.args.queues.now c.in_ok-put.put put c.put_out.new.queues c.in_ok-arrived.arrived arrived c.let_one_arrive.new.queues out c.in_ok-arrived.ensures.arrived c.requires.sound in
    let same = same_system old.core arrived.core c.args.routes.now _ _ so.rest (ap (λ p. block_rules p) c.let_one_arrive.ensures.parts) in
    let turned = worker_of c.make_turn.new.self in
    let tried = subst (λ (s : System). Turn may s c.args.pick arrived (Err c.in_err-turned.field-0.0) turned) same (c.in_err-turned.ensures.turn, c.in_err-turned.ensures.pick) in
    refused_so c.from_residual-in_err-turned.result c.from_residual-in_err-turned.ensures.0 (λ result. GoesThrough may sys here c.args.pick old c.args.queues.now result turned c.let_one_arrive.new.queues)
    (λ r. at_turn r c.in_err-turned.field-0.0 c.in_ok-put.put c.in_ok-arrived.arrived put c.put_out.new.queues arrived c.let_one_arrive.new.queues turned out (c.in_ok-arrived.ensures.arrived, c.in_ok-arrived.ensures.pick) tried)

pub returns-in_err-put_out-clause-phases : goal.returns-in_err-put_out-clause-phases
returns-in_err-put_out-clause-phases g c =
    let may = g.S.Agents.may in
    let q = g.Q.Queues.relations in
    let sys = system_around c.args.self.now c.args.routes.now in
    let old = worker_of c.args.self.now in
    let here = around q c.args.routes.now old.core in
    let put = holding old.core c.put_out.new.self.kept c.put_out.new.self.outgoing.items in
    let out = out_so q c.args.routes.now old.core old c.args.queues.now (Ok c.in_ok-put.put) c.put_out.new.self.kept c.put_out.new.self.outgoing.items c.put_out.new.queues c.in_ok-put.ensures.put c.in_ok-put.ensures.kept in
    let arrived = worker_of c.let_one_arrive.new.self in
    let so = arrived_so may sys here c.args.pick old c.args.queues.now c.in_ok-put.put put c.put_out.new.queues c.in_ok-arrived.arrived arrived c.let_one_arrive.new.queues out c.in_ok-arrived.ensures.arrived c.requires.sound in
    let same = same_system old.core arrived.core c.args.routes.now _ _ so.rest (ap (λ p. block_rules p) c.let_one_arrive.ensures.parts) in
    let turned = worker_of c.make_turn.new.self in
    let made = subst (λ (s : System). Turn may s c.args.pick arrived (Ok c.in_ok-turned.turned) turned) same (c.in_ok-turned.ensures.turn, c.in_ok-turned.ensures.pick) in
    let new = holding turned.core c.put_out-2.new.self.kept c.put_out-2.new.self.outgoing.items in
    let left = out_so q c.args.routes.now old.core turned c.let_one_arrive.new.queues (Err c.in_err-put_out.field-0.0) c.put_out-2.new.self.kept c.put_out-2.new.self.outgoing.items c.put_out-2.new.queues c.in_err-put_out.ensures.put c.in_err-put_out.ensures.kept in
    refused_so c.from_residual-in_err-put_out.result c.from_residual-in_err-put_out.ensures.0 (λ result. GoesThrough may sys here c.args.pick old c.args.queues.now result new c.put_out-2.new.queues)
    (λ r. at_last r c.in_err-put_out.field-0.0 c.in_ok-put.put c.in_ok-arrived.arrived c.in_ok-turned.turned put c.put_out.new.queues arrived c.let_one_arrive.new.queues turned new c.put_out-2.new.queues out (c.in_ok-arrived.ensures.arrived, c.in_ok-arrived.ensures.pick) made left)

pub returns-clause-phases : goal.returns-clause-phases
returns-clause-phases g c =
    let may = g.S.Agents.may in
    let q = g.Q.Queues.relations in
    let sys = system_around c.args.self.now c.args.routes.now in
    let old = worker_of c.args.self.now in
    let here = around q c.args.routes.now old.core in
    let put = holding old.core c.put_out.new.self.kept c.put_out.new.self.outgoing.items in
    let out = out_so q c.args.routes.now old.core old c.args.queues.now (Ok c.in_ok-put.put) c.put_out.new.self.kept c.put_out.new.self.outgoing.items c.put_out.new.queues c.in_ok-put.ensures.put c.in_ok-put.ensures.kept in
    let arrived = worker_of c.let_one_arrive.new.self in
    let so = arrived_so may sys here c.args.pick old c.args.queues.now c.in_ok-put.put put c.put_out.new.queues c.in_ok-arrived.arrived arrived c.let_one_arrive.new.queues out c.in_ok-arrived.ensures.arrived c.requires.sound in
    let same = same_system old.core arrived.core c.args.routes.now _ _ so.rest (ap (λ p. block_rules p) c.let_one_arrive.ensures.parts) in
    let turned = worker_of c.make_turn.new.self in
    let made = subst (λ (s : System). Turn may s c.args.pick arrived (Ok c.in_ok-turned.turned) turned) same (c.in_ok-turned.ensures.turn, c.in_ok-turned.ensures.pick) in
    let new = holding turned.core c.put_out-2.new.self.kept c.put_out-2.new.self.outgoing.items in
    let left = out_so q c.args.routes.now old.core turned c.let_one_arrive.new.queues (Ok c.in_ok-put_out.field-0) c.put_out-2.new.self.kept c.put_out-2.new.self.outgoing.items c.put_out-2.new.queues c.in_ok-put_out.ensures.put c.in_ok-put_out.ensures.kept in
    whole c.in_ok-put.put c.in_ok-arrived.arrived c.in_ok-turned.turned c.in_ok-put_out.field-0 put c.put_out.new.queues arrived c.let_one_arrive.new.queues turned new c.put_out-2.new.queues out (c.in_ok-arrived.ensures.arrived, c.in_ok-arrived.ensures.pick) made left
