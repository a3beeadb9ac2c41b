use Rattle.std.proofs.Common.{◌≡◌, ℕ, ◌+◌, None, length, ap, sym, ◌∙◌, subst, arith}
use Rattle.sdl_run_driver.proofs.Drives.{same_plan, reads_on, writes_on}
use Rattle.sdl_run_driver.proofs.Rounds.{same_still, on_did, on_idle, at_end}
use Rattle.sdl_block_hand.specs.declared.hand.Stepped.{Stepped}
use Rattle.sdl_block_hand.specs.declared.hand.Stepped.TheVariants.{Did, Idle, Memory}
use Rattle.sdl_run_outcome.specs.Plan.{Plan, workers_of}
use Rattle.sdl_run_driver.specs.Drivers.{site_of}
use Rattle.sdl_run_driver.specs.Systems.{plan_of}
use Rattle.sdl_run_driver.specs.Runs.{workers_below, WorkerSteps, StepsThrough}
use Rattle.sdl_run_driver.proofs.Running.{round_on, round_stops, worker_by}
use Rattle.sdl_run_driver.proofs.PassedOver.{free_still, steps_past, gone_past}
use Rattle.sdl_run_driver.proofs.driver.Driver.round.Goals.{in-Did, in-Idle}
use Rattle.sdl_run_driver.proofs.driver.Driver.round.Goals as goal

pub next_worker-number-requires-clause-within : goal.next_worker-number-requires-clause-within
next_worker-number-requires-clause-within g c =
    let same = same_plan c.args.self.now.system c.step.new.self.system (same_still c.args.self.now.system c.loop-number.self.system c.step.new.self.system c.loop-number.invariant.same c.step.ensures.same) in
    let all : length (workers_of (plan_of c.step.new.self.system)) ≡ length (workers_of (plan_of c.args.self.now.system)) = ap (λ (p : Plan). length (workers_of p)) same in
    omega (arith, all, c.loop-number-test.true, c.workers-workers.ensures.count)

pub next_worker-number-requires-clause-free : goal.next_worker-number-requires-clause-free
next_worker-number-requires-clause-free g c free =
    free_still g.S.Agents.may (plan_of c.loop-number.self.system) c.loop-number.number c.step.result (site_of c.loop-number.self) (site_of c.step.new.self) (elim c.match-step.branch [
      | in-Did w ↦ λ e. (let bad : Did ≡ Memory = sym w.in-Did.is ∙ e in cc)
      | in-Idle w ↦ λ e. (let bad : Idle ≡ Memory = sym w.in-Idle.is ∙ e in cc)
    ]) (c.loop-number.invariant.free free) c.step.ensures.step

pub loop-number-preserved : goal.loop-number-preserved
loop-number-preserved g c =
    let start = c.args.self.now in
    let now = c.loop-number.self in
    let next = c.step.new.self in
    let inv = c.loop-number.invariant in
    let n = c.loop-number.number in
    let to = c.next_worker-number.result in
    let past = c.next_worker-number.ensures in
    let same = same_still start.system now.system next.system inv.same c.step.ensures.same in
    let all : length (workers_of (plan_of next.system)) ≡ length (workers_of (plan_of start.system)) = ap (λ (p : Plan). length (workers_of p)) (same_plan start.system next.system same) in
    record {
      driving = c.step.ensures.driving;
      same = same;
      within = omega (arith, all, past.within);
      free = λ free. free_still g.S.Agents.may (plan_of now.system) n c.step.result (site_of now) (site_of next)
          (elim c.match-step.branch [
            | in-Did w ↦ λ e. (let bad : Did ≡ Memory = sym w.in-Did.is ∙ e in cc)
            | in-Idle w ↦ λ e. (let bad : Idle ≡ Memory = sym w.in-Idle.is ∙ e in cc)
          ]) (inv.free free) c.step.ensures.step;
      reading = reads_on start now next inv.same _ _ _ inv.reading c.step.ensures.reading;
      writing = writes_on start now next inv.same _ _ _ inv.writing c.step.ensures.writing;
      steps = steps_past g.S.Agents.may start next same (n + 1) to past.from past.passed (elim c.match-step.branch [
        | in-Did w ↦ round_on g.S.Agents.may (plan_of start.system) n c.step.result (site_of start) (site_of now) (site_of next) inv.steps (λ e. cc)
            (worker_by g.S.Agents.may start now inv.same n 0 c.step.result (site_of now) (site_of next) c.step.ensures.step)
        | in-Idle w ↦ round_on g.S.Agents.may (plan_of start.system) n c.step.result (site_of start) (site_of now) (site_of next) inv.steps (λ e. cc)
            (worker_by g.S.Agents.may start now inv.same n 0 c.step.result (site_of now) (site_of next) c.step.ensures.step)
      ]);
      gone = gone_past g.S.Agents.may start next same (n + 1) to past.from past.passed c.match-step.did (elim c.match-step.branch [
        | in-Did w ↦ on_did start now next inv.same n c.step.result c.loop-number.did inv.gone c.step.ensures.answer w.in-Did.is c.match-step.did w.did-is
        | in-Idle w ↦ on_idle start now next inv.same n c.step.result c.loop-number.did inv.gone c.step.ensures.answer w.in-Idle.is c.match-step.did w.did-is
      ]);
    }

pub returns-else-did-clause-answer : goal.returns-else-did-clause-answer
returns-else-did-clause-answer g c =
    let inv = c.loop-number.invariant in
    at_end g.S.Agents.may c.args.self.now c.loop-number.self c.loop-number.did c.loop-number.number inv.driving inv.same inv.gone c.if-did.false
    (omega (arith, c.loop-number-test.false, c.loop-number.invariant.within, c.workers-workers.ensures.count))

pub returns-in-Memory-clause-reading : goal.returns-in-Memory-clause-reading
returns-in-Memory-clause-reading g c = reads_on c.args.self.now c.loop-number.self c.step.new.self c.loop-number.invariant.same _ _ _ c.loop-number.invariant.reading c.step.ensures.reading

pub returns-in-Memory-clause-writing : goal.returns-in-Memory-clause-writing
returns-in-Memory-clause-writing g c = writes_on c.args.self.now c.loop-number.self c.step.new.self c.loop-number.invariant.same _ _ _ c.loop-number.invariant.writing c.step.ensures.writing

pub returns-in-Memory-clause-steps : goal.returns-in-Memory-clause-steps
returns-in-Memory-clause-steps g c =
    let may = g.S.Agents.may in
    let start = c.args.self.now in
    let now = c.loop-number.self in
    let next = c.step.new.self in
    let inv = c.loop-number.invariant in
    let n = c.loop-number.number in
    round_stops may (plan_of start.system) n (length (workers_of (plan_of start.system))) (site_of start) (site_of now) (site_of next) (omega (arith, c.loop-number-test.true, c.workers-workers.ensures.count)) inv.steps
    (subst (λ (a : Stepped). WorkerSteps may (plan_of start.system) n 0 a (site_of now) (site_of next)) c.in-Memory.is
    (worker_by may start now inv.same n 0 c.step.result (site_of now) (site_of next) c.step.ensures.step))

pub returns-then-did-clause-steps : goal.returns-then-did-clause-steps
returns-then-did-clause-steps g c =
    let start = c.args.self.now in
    let all : c.loop-number.number ≡ length (workers_of (plan_of start.system)) = omega (arith, c.loop-number-test.false, c.loop-number.invariant.within, c.workers-workers.ensures.count) in
    subst (λ (k : ℕ). StepsThrough g.S.Agents.may (plan_of start.system) (workers_below k) None (site_of start) (site_of c.loop-number.self)) all c.loop-number.invariant.steps

pub returns-else-did-clause-steps : goal.returns-else-did-clause-steps
returns-else-did-clause-steps g c =
    let start = c.args.self.now in
    let all : c.loop-number.number ≡ length (workers_of (plan_of start.system)) = omega (arith, c.loop-number-test.false, c.loop-number.invariant.within, c.workers-workers.ensures.count) in
    subst (λ (k : ℕ). StepsThrough g.S.Agents.may (plan_of start.system) (workers_below k) None (site_of start) (site_of c.loop-number.self)) all c.loop-number.invariant.steps
