use Rattle.std.proofs.Common.{refl}
use Rattle.sdl_run_driver.proofs.Driving.{fires_here, sound_here, legal_here, block_step, block_step_at, same_behaviours}
use Rattle.sdl_run_driver.proofs.driver.Driver.step_block.Goals as goal

pub step_serial-requires-clause-parts : goal.step_serial-requires-clause-parts
step_serial-requires-clause-parts g c = fires_here g.S.Agents.may c.args.self.now c.requires.driving c.args.block c.index_mut-worker.result.now c.requires.within c.index_mut-worker.ensures.value

pub step_serial-requires-clause-sound : goal.step_serial-requires-clause-sound
step_serial-requires-clause-sound g c = sound_here g.S.Agents.may c.args.self.now c.requires.driving c.args.block c.index_mut-worker.result.now c.requires.within c.index_mut-worker.ensures.value

pub step_serial-requires-clause-legal : goal.step_serial-requires-clause-legal
step_serial-requires-clause-legal g c = legal_here g.S.Agents.may c.args.self.now c.requires.driving c.args.block c.index_mut-worker.result.now c.requires.within c.index_mut-worker.ensures.value

pub returns-clause-step : goal.returns-clause-step
returns-clause-step g c =
    block_step g.S.Agents.may c.args.self.now c.requires.driving c.args.block c.index_mut-worker.result.now c.requires.within c.index_mut-worker.ensures.value
    c.step_serial.new.self c.step_serial.result c.step_serial.new.board c.step_serial.ensures.step

pub returns-clause-same : goal.returns-clause-same
returns-clause-same g c =
    record {
      checked = refl;
      routes = refl;
      budget = refl;
      behaviours = same_behaviours g.S.Agents.may c.args.self.now c.requires.driving c.args.block c.index_mut-worker.result.now c.requires.within c.index_mut-worker.ensures.value
          c.step_serial.new.self c.step_serial.result c.step_serial.new.board c.step_serial.ensures.parts;
    }

pub returns-clause-pick : goal.returns-clause-pick
returns-clause-pick g c =
    block_step_at g.S.Agents.may c.args.self.now c.requires.driving c.args.block c.index_mut-worker.result.now c.requires.within c.index_mut-worker.ensures.value
    c.step_serial.new.self c.step_serial.result c.step_serial.new.board c.args.pick c.step_serial.ensures.step c.step_serial.ensures.pick
