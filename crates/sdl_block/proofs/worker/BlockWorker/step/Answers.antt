use Rattle.std.proofs.Common.{ap, refl, subst, sym}
use Rattle.sdl_transition.specs.Rules.{block_rules}
use Rattle.sdl_forward.specs.ByEnds.{by_ends}
use Rattle.sdl_block_hand.specs.declared.hand.Stepped.{Stepped}
use Rattle.sdl_block_hand.specs.Apart.{StepsApart}
use Rattle.sdl_block_hand.specs.Puts.{answer_of}
use Rattle.sdl_block.specs.Around.{around}
use Rattle.sdl_block.specs.Phases.{IsEmptyAfter}
use Rattle.sdl_block.specs.PhasesApart.{IsOneRoundApart}
use Rattle.sdl_block.specs.Workers.{worker_of, system_around}
use Rattle.sdl_block.proofs.AtEnds as at
use Rattle.sdl_block.proofs.Keeps.{hand_legal, hand_ways, keeps_step}
use Rattle.sdl_block.proofs.Ran.{picks_of, empty_of}
use Rattle.sdl_block.proofs.worker.BlockWorker.step.Goals as goal

pub try_step-requires-clause-legal : goal.try_step-requires-clause-legal
try_step-requires-clause-legal g c = hand_legal g.S.Agents.may (system_around c.args.self.now c.args.routes.now) (worker_of c.args.self.now) c.args.ends.now c.requires.keeps

pub try_step-requires-clause-hand : goal.try_step-requires-clause-hand
try_step-requires-clause-hand g c = hand_ways g.S.Agents.may (system_around c.args.self.now c.args.routes.now) (worker_of c.args.self.now) c.args.ends.now c.requires.keeps

pub returns-clause-step : goal.returns-clause-step
returns-clause-step g c =
    let did = at.did g.S.Agents.may (system_around c.args.self.now c.args.routes.now) (worker_of c.args.self.now) c.args.ends.now c.args.pick c.try_step.result (worker_of c.try_step.new.self) c.try_step.new.queues c.try_step.ensures.phases c.requires.keeps.sound in
    subst (λ (a : Stepped). StepsApart g.S.Agents.may (system_around c.args.self.now c.args.routes.now) (worker_of c.args.self.now) c.args.ends.now a (worker_of c.try_step.new.self) c.try_step.new.queues) (sym c.answer_of.ensures) did.steps

pub returns-clause-first : goal.returns-clause-first
returns-clause-first g c =
    let did = at.did g.S.Agents.may (system_around c.args.self.now c.args.routes.now) (worker_of c.args.self.now) c.args.ends.now c.args.pick c.try_step.result (worker_of c.try_step.new.self) c.try_step.new.queues c.try_step.ensures.phases c.requires.keeps.sound in
    did.first

pub returns-clause-round : goal.returns-clause-round
returns-clause-round g c =
    let did = at.did g.S.Agents.may (system_around c.args.self.now c.args.routes.now) (worker_of c.args.self.now) c.args.ends.now c.args.pick c.try_step.result (worker_of c.try_step.new.self) c.try_step.new.queues c.try_step.ensures.phases c.requires.keeps.sound in
    subst (λ (a : Stepped). IsOneRoundApart (worker_of c.args.self.now) c.args.ends.now a (worker_of c.try_step.new.self) c.try_step.new.queues) (sym c.answer_of.ensures) did.round

pub returns-clause-spent : goal.returns-clause-spent
returns-clause-spent g c =
    let did = at.did g.S.Agents.may (system_around c.args.self.now c.args.routes.now) (worker_of c.args.self.now) c.args.ends.now c.args.pick c.try_step.result (worker_of c.try_step.new.self) c.try_step.new.queues c.try_step.ensures.phases c.requires.keeps.sound in
    did.spent

pub returns-clause-ends : goal.returns-clause-ends
returns-clause-ends g c =
    let did = at.did g.S.Agents.may (system_around c.args.self.now c.args.routes.now) (worker_of c.args.self.now) c.args.ends.now c.args.pick c.try_step.result (worker_of c.try_step.new.self) c.try_step.new.queues c.try_step.ensures.phases c.requires.keeps.sound in
    did.same

pub returns-clause-hand : goal.returns-clause-hand
returns-clause-hand g c =
    subst (λ (a : Stepped). IsEmptyAfter a (worker_of c.try_step.new.self)) (sym c.answer_of.ensures)
    (empty_of g.S.Agents.may (system_around c.args.self.now c.args.routes.now) (around by_ends c.args.routes.now (worker_of c.args.self.now).core) c.args.pick (worker_of c.args.self.now) c.args.ends.now c.try_step.ensures.phases c.requires.keeps.sound)

pub returns-clause-pick : goal.returns-clause-pick
returns-clause-pick g c =
    picks_of g.S.Agents.may (system_around c.args.self.now c.args.routes.now) (around by_ends c.args.routes.now (worker_of c.args.self.now).core) c.args.pick (worker_of c.args.self.now) c.args.ends.now c.try_step.ensures.phases

pub returns-clause-keeps : goal.returns-clause-keeps
returns-clause-keeps g c =
    let did = at.did g.S.Agents.may (system_around c.args.self.now c.args.routes.now) (worker_of c.args.self.now) c.args.ends.now c.args.pick c.try_step.result (worker_of c.try_step.new.self) c.try_step.new.queues c.try_step.ensures.phases c.requires.keeps.sound in
    keeps_step g.S.Agents.may (system_around c.args.self.now c.args.routes.now) (answer_of c.try_step.result) (worker_of c.args.self.now) c.args.ends.now (worker_of c.try_step.new.self) c.try_step.new.queues c.args.routes.now _ _
    did.steps c.requires.keeps did.same refl (ap (λ p. block_rules p) c.try_step.ensures.parts)
