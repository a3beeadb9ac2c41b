use Rattle.std.proofs.Common.{refl, arith}
use Rattle.sdl_run_driver.specs.Stopped.{site_of_parked}
use Rattle.sdl_run_driver.specs.Systems.{plan_of}
use Rattle.sdl_run_driver.proofs.Waits.{at_block, one_waits, few_wait}
use Rattle.sdl_run_driver.proofs.parked.Parked.waiting.Goals as goal

pub overflow_add-waiting : goal.overflow_add-waiting
overflow_add-waiting g c =
    let d = c.args.self.now in
    let one = one_waits at_block d.system.blocks.items c.args.self.now.system.blocks.items refl c.loop-number.number c.index.result.now (omega (arith, c.loop-number-test.true, c.len-number-end.ensures)) c.index.ensures in
    let few = few_wait d.system.blocks.items (site_of_parked d) refl g.S.Agents.may (plan_of d.system) c.requires.plan c.requires.work in
    let is = c.left_in_ports-waiting.ensures in
    let so_far = c.loop-number.invariant in
    omega (arith, one, few, is, so_far)
