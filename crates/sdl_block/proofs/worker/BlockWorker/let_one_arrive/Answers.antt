use Rattle.std.proofs.Common.{refl}
use Rattle.std.proofs.lemmas.Bool.{false≢true}
use Rattle.sdl_block.specs.Workers.{worker_of, system_around}
use Rattle.sdl_block.proofs.Going.{lets_from, lets_none}
use Rattle.sdl_block.proofs.worker.BlockWorker.let_one_arrive.Goals as goal

pub returns-then-is_spent-clause-arrived : goal.returns-then-is_spent-clause-arrived
returns-then-is_spent-clause-arrived g c =
    lets_none g.Q.Queues.relations g.S.Agents.may (system_around c.args.self.now c.args.routes.now) (worker_of c.args.self.now) c.args.queues.now c.let_none_arrive.result
    (c.if-is_spent.ensures.0 refl) c.let_none_arrive.ensures

pub returns-clause-arrived : goal.returns-clause-arrived
returns-clause-arrived g c =
    lets_from g.Q.Queues.relations g.S.Agents.may (system_around c.args.self.now c.args.routes.now) (worker_of c.args.self.now) c.args.queues.now c.block.result c.block.ensures c.fill.new.slot c.admit_kept.result (worker_of c.admit_kept.new.self) c.fill.new.queues
    (λ used. false≢true (c.if-is_spent.ensures.1 used)) c.fill.ensures c.admit_kept.ensures.arrived
