use Rattle.std.proofs.Common.{ap, subst}
use Rattle.sdl_run_driver.specs.declared.driver.Round.{Round}
use Rattle.sdl_run_driver.specs.Drivers.{site_of, AllFree, RoundAnswers}
use Rattle.sdl_run_driver.specs.Systems.{plan_of}
use Rattle.sdl_run_driver.proofs.Drives.{reads_on, writes_on}
use Rattle.sdl_run_driver.proofs.Rounds.{less_by, same_itself, same_still}
use Rattle.sdl_run_driver.specs.declared.driver.Round.TheVariants as round
use Rattle.sdl_run_driver.proofs.Running.{round_after, none_settled}
use Rattle.sdl_run_driver.specs.Runs.{refused_in}
use Rattle.sdl_run_driver.proofs.PassedOver.{free_of}
use Rattle.sdl_run_driver.proofs.driver.Driver.settle.Goals as goal

pub loop-worker-smaller : goal.loop-worker-smaller
loop-worker-smaller g c =
    let now = c.loop-worker.self in
    let next = c.round.new.self in
    less_by c.args.self.now now next c.loop-worker.invariant.same
    (subst (λ (a : Round). RoundAnswers (plan_of now.system) a (site_of now) (site_of next)) c.in-Did.is c.round.ensures.answer)

pub loop-worker-preserved : goal.loop-worker-preserved
loop-worker-preserved g c =
    let start = c.args.self.now in
    let now = c.loop-worker.self in
    let next = c.round.new.self in
    let inv = c.loop-worker.invariant in
    record {
      driving = c.round.ensures.driving;
      same = same_still start.system now.system next.system inv.same c.round.ensures.same;
      free = λ free. c.round.ensures.free (ap refused_in c.in-Did.is) free;
      steps = round_after g.S.Agents.may start now next inv.same round.Did c.round.result c.in-Did.is inv.steps c.round.ensures.steps;
      reading = reads_on start now next inv.same _ _ _ inv.reading c.round.ensures.reading;
      writing = writes_on start now next inv.same _ _ _ inv.writing c.round.ensures.writing;
    }

pub returns-in-Idle-clause-reading : goal.returns-in-Idle-clause-reading
returns-in-Idle-clause-reading g c = reads_on c.args.self.now c.loop-worker.self c.round.new.self c.loop-worker.invariant.same _ _ _ c.loop-worker.invariant.reading c.round.ensures.reading

pub returns-in-Idle-clause-writing : goal.returns-in-Idle-clause-writing
returns-in-Idle-clause-writing g c = writes_on c.args.self.now c.loop-worker.self c.round.new.self c.loop-worker.invariant.same _ _ _ c.loop-worker.invariant.writing c.round.ensures.writing

pub returns-in-Refused-clause-reading : goal.returns-in-Refused-clause-reading
returns-in-Refused-clause-reading g c = reads_on c.args.self.now c.loop-worker.self c.round.new.self c.loop-worker.invariant.same _ _ _ c.loop-worker.invariant.reading c.round.ensures.reading

pub returns-in-Refused-clause-writing : goal.returns-in-Refused-clause-writing
returns-in-Refused-clause-writing g c = writes_on c.args.self.now c.loop-worker.self c.round.new.self c.loop-worker.invariant.same _ _ _ c.loop-worker.invariant.writing c.round.ensures.writing

pub loop-worker-init : goal.loop-worker-init
loop-worker-init g c =
    record {
      driving = c.requires.driving;
      same = same_itself c.args.self.now.system;
      free = free_of c.are_free-free.result (AllFree (site_of c.args.self.now)) c.are_free-free.ensures;
      steps = none_settled g.S.Agents.may (plan_of c.args.self.now.system) (site_of c.args.self.now);
      reading = λ start h. h;
      writing = λ start h. h;
    }

pub returns-in-Idle-clause-steps : goal.returns-in-Idle-clause-steps
returns-in-Idle-clause-steps g c =
    round_after g.S.Agents.may c.args.self.now c.loop-worker.self c.round.new.self c.loop-worker.invariant.same round.Idle c.round.result c.in-Idle.is c.loop-worker.invariant.steps c.round.ensures.steps

pub returns-in-Refused-clause-steps : goal.returns-in-Refused-clause-steps
returns-in-Refused-clause-steps g c =
    round_after g.S.Agents.may c.args.self.now c.loop-worker.self c.round.new.self c.loop-worker.invariant.same (round.Refused c.in-Refused.worker) c.round.result c.in-Refused.is c.loop-worker.invariant.steps c.round.ensures.steps
