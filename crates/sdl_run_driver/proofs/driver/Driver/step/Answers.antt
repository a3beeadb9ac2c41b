use Rattle.std.proofs.Common.{ℕ, ◌≡◌, ◌≢◌, ◌≤◌, ◌+◌, ◌-◌, inl, inr, length, ap, sym, arith, subst}
use Rattle.std.proofs.lemmas.List.{length-map}
use Rattle.sdl_forward.specs.declared.forwarder.Forwarded.{Forwarded}
use Rattle.sdl_block.specs.Workers.{worker_of}
use Rattle.sdl_run_driver.specs.Drivers.{site_of, StepAnswers, stepped_by}
use Rattle.sdl_run_driver.specs.Systems.{plan_of}
use Rattle.sdl_run_driver.proofs.Drives.{workers_count, block_answers, block_drives, environment_answers, environment_drives, forwarder_answers, forwarder_drives, reads_still, writes_still}
use Rattle.sdl_run_outcome.specs.Plan.{blocks_in}
use Rattle.sdl_run_driver.proofs.driver.Driver.step.Goals as goal

place_is : (n b l : ℕ) → l ≡ b → b ≤ n → n ≢ b → n ≡ l + 1 + (n - b - 1)
place_is n b l same within apart = omega arith

pub returns-then-number-blocks-clause-driving : goal.returns-then-number-blocks-clause-driving
returns-then-number-blocks-clause-driving g c = block_drives g.S.Agents.may c.args.self.now c.step_block.new.self c.requires.driving c.step_block.ensures.same c.args.number c.step_block.result c.step_block.ensures.step

pub returns-then-number-blocks-clause-answer : goal.returns-then-number-blocks-clause-answer
returns-then-number-blocks-clause-answer g c =
    block_answers g.S.Agents.may (plan_of c.args.self.now.system) c.requires.driving.plan (site_of c.args.self.now) (site_of c.step_block.new.self) c.requires.driving.work c.args.number c.step_block.result c.step_block.ensures.step

pub returns-then-number-blocks-clause-reading : goal.returns-then-number-blocks-clause-reading
returns-then-number-blocks-clause-reading g c =
    let d = c.args.self.now in
    reads_still (plan_of d.system) d.environment c.step_block.new.self.environment (g.R.Read.remaining c.args.input.now) c.step_block.ensures.step.environment

pub returns-then-number-blocks-clause-writing : goal.returns-then-number-blocks-clause-writing
returns-then-number-blocks-clause-writing g c =
    let d = c.args.self.now in
    writes_still (plan_of d.system) d.environment c.step_block.new.self.environment (g.W.Write.contents c.args.output.now) c.step_block.ensures.step.environment

pub returns-then-number-blocks-2-clause-driving : goal.returns-then-number-blocks-2-clause-driving
returns-then-number-blocks-2-clause-driving g c =
    environment_drives g.S.Agents.may c.args.self.now c.step_environment.new.self c.requires.driving c.step_environment.ensures.same c.step_environment.result c.step_environment.ensures.step

pub returns-then-number-blocks-2-clause-answer : goal.returns-then-number-blocks-2-clause-answer
returns-then-number-blocks-2-clause-answer g c =
    let d = c.args.self.now in
    let at : c.args.number ≡ length (site_of d).blocks = omega (arith, length-map d.system.blocks.items worker_of, c.len-blocks.ensures, c.if-number-blocks-2.true) in
    environment_answers g.S.Agents.may (plan_of d.system) c.requires.driving.plan (site_of d) (site_of c.step_environment.new.self) c.requires.driving.work c.args.number c.step_environment.result at
    c.step_environment.ensures.step

pub step_forwarder-requires-clause-within : goal.step_forwarder-requires-clause-within
step_forwarder-requires-clause-within g c =
    let d = c.args.self.now in
    let a = workers_count g.S.Agents.may (plan_of d.system) (site_of d) c.requires.driving.work in
    let b = length-map d.system.blocks.items worker_of in
    let e = c.len-blocks.ensures in
    let w = c.requires.within in
    let l = c.if-number-blocks.false in
    let n = c.if-number-blocks-2.false in
    omega arith

pub returns-in-Moved-clause-driving : goal.returns-in-Moved-clause-driving
returns-in-Moved-clause-driving g c =
    forwarder_drives g.S.Agents.may c.args.self.now c.step_forwarder.new.self c.requires.driving c.step_forwarder.ensures.same (c.args.number - c.len-blocks.result - 1) c.step_forwarder.result c.step_forwarder.ensures.step

pub returns-in-Idle-clause-driving : goal.returns-in-Idle-clause-driving
returns-in-Idle-clause-driving g c =
    forwarder_drives g.S.Agents.may c.args.self.now c.step_forwarder.new.self c.requires.driving c.step_forwarder.ensures.same (c.args.number - c.len-blocks.result - 1) c.step_forwarder.result c.step_forwarder.ensures.step

pub returns-in-Held-clause-driving : goal.returns-in-Held-clause-driving
returns-in-Held-clause-driving g c =
    forwarder_drives g.S.Agents.may c.args.self.now c.step_forwarder.new.self c.requires.driving c.step_forwarder.ensures.same (c.args.number - c.len-blocks.result - 1) c.step_forwarder.result c.step_forwarder.ensures.step

pub returns-in-Moved-clause-answer : goal.returns-in-Moved-clause-answer
returns-in-Moved-clause-answer g c =
    let d = c.args.self.now in
    let new = c.step_forwarder.new.self in
    let at = place_is c.args.number c.len-blocks.result (length (site_of d).blocks) (omega (arith, c.len-blocks.ensures, length-map d.system.blocks.items worker_of)) c.if-number-blocks.false c.if-number-blocks-2.false in
    subst (λ (a : Forwarded). StepAnswers (plan_of d.system) c.args.number (stepped_by a) (site_of d) (site_of new)) c.in-Moved.is
    (forwarder_answers g.S.Agents.may (plan_of d.system) c.requires.driving.plan (site_of d) (site_of new) c.requires.driving.work c.args.number (c.args.number - c.len-blocks.result - 1) c.step_forwarder.result at c.step_forwarder.ensures.step)

pub returns-in-Idle-clause-answer : goal.returns-in-Idle-clause-answer
returns-in-Idle-clause-answer g c =
    let d = c.args.self.now in
    let new = c.step_forwarder.new.self in
    let at = place_is c.args.number c.len-blocks.result (length (site_of d).blocks) (omega (arith, c.len-blocks.ensures, length-map d.system.blocks.items worker_of)) c.if-number-blocks.false c.if-number-blocks-2.false in
    subst (λ (a : Forwarded). StepAnswers (plan_of d.system) c.args.number (stepped_by a) (site_of d) (site_of new)) c.in-Idle.is
    (forwarder_answers g.S.Agents.may (plan_of d.system) c.requires.driving.plan (site_of d) (site_of new) c.requires.driving.work c.args.number (c.args.number - c.len-blocks.result - 1) c.step_forwarder.result at c.step_forwarder.ensures.step)

pub returns-in-Moved-clause-reading : goal.returns-in-Moved-clause-reading
returns-in-Moved-clause-reading g c =
    let d = c.args.self.now in
    reads_still (plan_of d.system) d.environment c.step_forwarder.new.self.environment (g.R.Read.remaining c.args.input.now) c.step_forwarder.ensures.step.environment

pub returns-in-Moved-clause-writing : goal.returns-in-Moved-clause-writing
returns-in-Moved-clause-writing g c =
    let d = c.args.self.now in
    writes_still (plan_of d.system) d.environment c.step_forwarder.new.self.environment (g.W.Write.contents c.args.output.now) c.step_forwarder.ensures.step.environment

pub returns-in-Idle-clause-reading : goal.returns-in-Idle-clause-reading
returns-in-Idle-clause-reading g c =
    let d = c.args.self.now in
    reads_still (plan_of d.system) d.environment c.step_forwarder.new.self.environment (g.R.Read.remaining c.args.input.now) c.step_forwarder.ensures.step.environment

pub returns-in-Idle-clause-writing : goal.returns-in-Idle-clause-writing
returns-in-Idle-clause-writing g c =
    let d = c.args.self.now in
    writes_still (plan_of d.system) d.environment c.step_forwarder.new.self.environment (g.W.Write.contents c.args.output.now) c.step_forwarder.ensures.step.environment

pub returns-in-Held-clause-reading : goal.returns-in-Held-clause-reading
returns-in-Held-clause-reading g c =
    let d = c.args.self.now in
    reads_still (plan_of d.system) d.environment c.step_forwarder.new.self.environment (g.R.Read.remaining c.args.input.now) c.step_forwarder.ensures.step.environment

pub returns-in-Held-clause-writing : goal.returns-in-Held-clause-writing
returns-in-Held-clause-writing g c =
    let d = c.args.self.now in
    writes_still (plan_of d.system) d.environment c.step_forwarder.new.self.environment (g.W.Write.contents c.args.output.now) c.step_forwarder.ensures.step.environment

pub returns-then-number-blocks-clause-step : goal.returns-then-number-blocks-clause-step
returns-then-number-blocks-clause-step g c = inl c.step_block.ensures.pick

pub returns-then-number-blocks-2-clause-step : goal.returns-then-number-blocks-2-clause-step
returns-then-number-blocks-2-clause-step g c =
    let d = c.args.self.now in
    let at : c.args.number ≡ blocks_in (plan_of d.system) = omega (arith, length-map d.system.blocks.items worker_of, c.len-blocks.ensures, c.if-number-blocks-2.true, c.requires.driving.work.blocks) in
    inr (inl (at, c.step_environment.ensures.step, c.step_environment.ensures.pick))

pub returns-in-Moved-clause-step : goal.returns-in-Moved-clause-step
returns-in-Moved-clause-step g c =
    let d = c.args.self.now in
    let at = place_is c.args.number c.len-blocks.result (blocks_in (plan_of d.system)) (omega (arith, c.len-blocks.ensures, length-map d.system.blocks.items worker_of, c.requires.driving.work.blocks)) c.if-number-blocks.false c.if-number-blocks-2.false in
    inr (inr (c.args.number - c.len-blocks.result - 1, c.step_forwarder.result, at, sym (ap stepped_by c.in-Moved.is), c.step_forwarder.ensures.step))

pub returns-in-Idle-clause-step : goal.returns-in-Idle-clause-step
returns-in-Idle-clause-step g c =
    let d = c.args.self.now in
    let at = place_is c.args.number c.len-blocks.result (blocks_in (plan_of d.system)) (omega (arith, c.len-blocks.ensures, length-map d.system.blocks.items worker_of, c.requires.driving.work.blocks)) c.if-number-blocks.false c.if-number-blocks-2.false in
    inr (inr (c.args.number - c.len-blocks.result - 1, c.step_forwarder.result, at, sym (ap stepped_by c.in-Idle.is), c.step_forwarder.ensures.step))

pub returns-in-Held-clause-step : goal.returns-in-Held-clause-step
returns-in-Held-clause-step g c =
    let d = c.args.self.now in
    let at = place_is c.args.number c.len-blocks.result (blocks_in (plan_of d.system)) (omega (arith, c.len-blocks.ensures, length-map d.system.blocks.items worker_of, c.requires.driving.work.blocks)) c.if-number-blocks.false c.if-number-blocks-2.false in
    inr (inr (c.args.number - c.len-blocks.result - 1, c.step_forwarder.result, at, sym (ap stepped_by c.in-Held.is), c.step_forwarder.ensures.step))
