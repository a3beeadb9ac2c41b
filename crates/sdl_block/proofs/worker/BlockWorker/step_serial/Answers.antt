use Rattle.std.proofs.Common.{ap, refl, subst, sym}
use Rattle.sdl_transition.specs.Rules.{block_rules}
use Rattle.sdl_forward.specs.OnBoard.{on_board}
use Rattle.sdl_block_hand.specs.declared.hand.Stepped.{Stepped}
use Rattle.sdl_block_hand.specs.Work.{StepsAs}
use Rattle.sdl_block_hand.specs.Puts.{answer_of}
use Rattle.sdl_block_hand.proofs.Sides.{board_ways}
use Rattle.sdl_block.specs.Around.{around}
use Rattle.sdl_block.specs.Phases.{IsEmptyAfter}
use Rattle.sdl_block.specs.Rounds.{IsOneRound}
use Rattle.sdl_block.specs.Workers.{worker_of, system_around}
use Rattle.sdl_block.proofs.Again.{sound_again, legal_again, board_again, system_again}
use Rattle.sdl_block.proofs.OnBoard as on
use Rattle.sdl_block.proofs.Ran.{picks_of, empty_of}
use Rattle.sdl_block.proofs.worker.BlockWorker.step_serial.Goals as goal

pub try_step-requires-clause-hand : goal.try_step-requires-clause-hand
try_step-requires-clause-hand g c = board_ways c.args.routes.now c.args.board.now c.args.self.now.hand.outgoing.items c.requires.board

pub try_step-requires-clause-ways : goal.try_step-requires-clause-ways
try_step-requires-clause-ways g c = on.board_ways (system_around c.args.self.now c.args.routes.now) (worker_of c.args.self.now).core.block c.args.board.now c.requires.board

pub returns-clause-step : goal.returns-clause-step
returns-clause-step g c =
    let did = on.did g.S.Agents.may (system_around c.args.self.now c.args.routes.now) (worker_of c.args.self.now) c.args.board.now c.args.pick c.try_step.result (worker_of c.try_step.new.self) c.try_step.new.queues c.try_step.ensures.phases c.requires.sound in
    subst (λ (a : Stepped). StepsAs g.S.Agents.may (system_around c.args.self.now c.args.routes.now) (worker_of c.args.self.now) c.args.board.now a (worker_of c.try_step.new.self) c.try_step.new.queues) (sym c.answer_of.ensures) did.steps

pub returns-clause-first : goal.returns-clause-first
returns-clause-first g c =
    let did = on.did g.S.Agents.may (system_around c.args.self.now c.args.routes.now) (worker_of c.args.self.now) c.args.board.now c.args.pick c.try_step.result (worker_of c.try_step.new.self) c.try_step.new.queues c.try_step.ensures.phases c.requires.sound in
    did.first

pub returns-clause-round : goal.returns-clause-round
returns-clause-round g c =
    let did = on.did g.S.Agents.may (system_around c.args.self.now c.args.routes.now) (worker_of c.args.self.now) c.args.board.now c.args.pick c.try_step.result (worker_of c.try_step.new.self) c.try_step.new.queues c.try_step.ensures.phases c.requires.sound in
    subst (λ (a : Stepped). IsOneRound c.args.routes.now (worker_of c.args.self.now) c.args.board.now a (worker_of c.try_step.new.self) c.try_step.new.queues) (sym c.answer_of.ensures) did.round

pub returns-clause-spent : goal.returns-clause-spent
returns-clause-spent g c =
    let did = on.did g.S.Agents.may (system_around c.args.self.now c.args.routes.now) (worker_of c.args.self.now) c.args.board.now c.args.pick c.try_step.result (worker_of c.try_step.new.self) c.try_step.new.queues c.try_step.ensures.phases c.requires.sound in
    did.spent

pub returns-clause-hand : goal.returns-clause-hand
returns-clause-hand g c =
    subst (λ (a : Stepped). IsEmptyAfter a (worker_of c.try_step.new.self)) (sym c.answer_of.ensures)
    (empty_of g.S.Agents.may (system_around c.args.self.now c.args.routes.now) (around on_board c.args.routes.now (worker_of c.args.self.now).core) c.args.pick (worker_of c.args.self.now) c.args.board.now c.try_step.ensures.phases c.requires.sound)

pub returns-clause-pick : goal.returns-clause-pick
returns-clause-pick g c =
    picks_of g.S.Agents.may (system_around c.args.self.now c.args.routes.now) (around on_board c.args.routes.now (worker_of c.args.self.now).core) c.args.pick (worker_of c.args.self.now) c.args.board.now c.try_step.ensures.phases

pub returns-clause-sound : goal.returns-clause-sound
returns-clause-sound g c =
    let did = on.did g.S.Agents.may (system_around c.args.self.now c.args.routes.now) (worker_of c.args.self.now) c.args.board.now c.args.pick c.try_step.result (worker_of c.try_step.new.self) c.try_step.new.queues c.try_step.ensures.phases c.requires.sound in
    let same = system_again g.S.Agents.may (system_around c.args.self.now c.args.routes.now) (worker_of c.args.self.now) c.args.board.now (worker_of c.try_step.new.self) c.try_step.new.queues (answer_of c.try_step.result) did.steps c.requires.sound c.args.routes.now _ _ refl (ap (λ p. block_rules p) c.try_step.ensures.parts) in
    sound_again g.S.Agents.may (system_around c.args.self.now c.args.routes.now) (worker_of c.args.self.now) c.args.board.now (worker_of c.try_step.new.self) c.try_step.new.queues (answer_of c.try_step.result) did.steps c.requires.sound _ same

pub returns-clause-legal : goal.returns-clause-legal
returns-clause-legal g c =
    let did = on.did g.S.Agents.may (system_around c.args.self.now c.args.routes.now) (worker_of c.args.self.now) c.args.board.now c.args.pick c.try_step.result (worker_of c.try_step.new.self) c.try_step.new.queues c.try_step.ensures.phases c.requires.sound in
    let same = system_again g.S.Agents.may (system_around c.args.self.now c.args.routes.now) (worker_of c.args.self.now) c.args.board.now (worker_of c.try_step.new.self) c.try_step.new.queues (answer_of c.try_step.result) did.steps c.requires.sound c.args.routes.now _ _ refl (ap (λ p. block_rules p) c.try_step.ensures.parts) in
    legal_again g.S.Agents.may (system_around c.args.self.now c.args.routes.now) (worker_of c.args.self.now) c.args.board.now (worker_of c.try_step.new.self) c.try_step.new.queues (answer_of c.try_step.result) did.steps c.requires.sound _ same c.requires.legal

pub returns-clause-board : goal.returns-clause-board
returns-clause-board g c =
    let did = on.did g.S.Agents.may (system_around c.args.self.now c.args.routes.now) (worker_of c.args.self.now) c.args.board.now c.args.pick c.try_step.result (worker_of c.try_step.new.self) c.try_step.new.queues c.try_step.ensures.phases c.requires.sound in
    board_again g.S.Agents.may (system_around c.args.self.now c.args.routes.now) (worker_of c.args.self.now) c.args.board.now (worker_of c.try_step.new.self) c.try_step.new.queues (answer_of c.try_step.result) did.steps c.requires.sound c.args.routes.now c.requires.board
