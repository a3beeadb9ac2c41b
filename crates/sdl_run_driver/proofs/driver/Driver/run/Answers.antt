use Rattle.sdl_run_driver.specs.Drivers.{site_of}
use Rattle.sdl_run_driver.specs.Systems.{plan_of}
use Rattle.sdl_run_driver.proofs.Drives.{reads_on, writes_on}
use Rattle.sdl_run_driver.proofs.Rounds.{same_itself, same_still}
use Rattle.sdl_run_driver.proofs.Running.{no_steps, scheduled_on, scheduled_stops, scheduled_settles}
use Rattle.sdl_run_driver.proofs.driver.Driver.run.Goals.{in-Did, in-Idle}
use Rattle.sdl_run_driver.proofs.driver.Driver.run.Goals as goal

pub loop-number-init : goal.loop-number-init
loop-number-init g c =
    record {
      driving = c.requires.driving;
      same = same_itself c.args.self.now.system;
      steps = no_steps g.S.Agents.may (plan_of c.args.self.now.system) (site_of c.args.self.now);
      reading = λ start h. h;
      writing = λ start h. h;
    }

pub loop-number-preserved : goal.loop-number-preserved
loop-number-preserved g c =
    let start = c.args.self.now in
    let now = c.loop-number.self in
    let next = c.step.new.self in
    let inv = c.loop-number.invariant in
    record {
      driving = c.step.ensures.driving;
      same = same_still start.system now.system next.system inv.same c.step.ensures.same;
      steps = elim c.match-step.branch [
        | in-Did w ↦ scheduled_on g.S.Agents.may start now next inv.same c.args.schedule.now c.loop-number.number-index c.workers-workers.result c.workers-workers.ensures.count c.loop-number-test.true inv.steps c.step.result (λ e. cc) c.step.ensures.step
        | in-Idle w ↦ scheduled_on g.S.Agents.may start now next inv.same c.args.schedule.now c.loop-number.number-index c.workers-workers.result c.workers-workers.ensures.count c.loop-number-test.true inv.steps c.step.result (λ e. cc) c.step.ensures.step
      ];
      reading = reads_on start now next inv.same _ _ _ inv.reading c.step.ensures.reading;
      writing = writes_on start now next inv.same _ _ _ inv.writing c.step.ensures.writing;
    }

pub returns-in-Memory-clause-reading : goal.returns-in-Memory-clause-reading
returns-in-Memory-clause-reading g c = reads_on c.args.self.now c.loop-number.self c.step.new.self c.loop-number.invariant.same _ _ _ c.loop-number.invariant.reading c.step.ensures.reading

pub returns-clause-reading : goal.returns-clause-reading
returns-clause-reading g c = reads_on c.args.self.now c.loop-number.self c.settle.new.self c.loop-number.invariant.same _ _ _ c.loop-number.invariant.reading c.settle.ensures.reading

pub returns-in-Memory-clause-writing : goal.returns-in-Memory-clause-writing
returns-in-Memory-clause-writing g c = writes_on c.args.self.now c.loop-number.self c.step.new.self c.loop-number.invariant.same _ _ _ c.loop-number.invariant.writing c.step.ensures.writing

pub returns-clause-writing : goal.returns-clause-writing
returns-clause-writing g c = writes_on c.args.self.now c.loop-number.self c.settle.new.self c.loop-number.invariant.same _ _ _ c.loop-number.invariant.writing c.settle.ensures.writing

pub returns-in-Memory-clause-run : goal.returns-in-Memory-clause-run
returns-in-Memory-clause-run g c =
    scheduled_stops g.S.Agents.may c.args.self.now c.loop-number.self c.step.new.self c.loop-number.invariant.same c.args.schedule.now c.loop-number.number-index c.workers-workers.result c.workers-workers.ensures.count
    c.loop-number-test.true c.loop-number.invariant.steps c.step.result c.in-Memory.is c.step.ensures.step

pub returns-clause-run : goal.returns-clause-run
returns-clause-run g c =
    scheduled_settles g.S.Agents.may c.args.self.now c.loop-number.self c.settle.new.self c.loop-number.invariant.same c.args.schedule.now c.loop-number.number-index c.settle.result _
    c.loop-number-test.false c.loop-number.invariant.steps c.settle.ensures.steps c.settle.ensures.answer
