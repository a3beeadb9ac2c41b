use Rattle.std.proofs.Common.{◌+◌, ◌-◌, arith}
use Rattle.std.proofs.lemmas.List.{length-map}
use Rattle.sdl_block.specs.Workers.{worker_of}
use Rattle.sdl_run_driver.specs.Drivers.{site_of}
use Rattle.sdl_run_driver.specs.Systems.{plan_of}
use Rattle.sdl_run_driver.proofs.Drives.{workers_count, workers_few}
use Rattle.sdl_run_driver.proofs.PassedOver.{passed_over, by_channel}
use Rattle.sdl_run_driver.proofs.driver.Driver.next_worker.Goals as goal

pub next_forwarder-requires : goal.next_forwarder-requires
next_forwarder-requires g c =
    let d = c.args.self.now in
    let a = workers_count g.S.Agents.may (plan_of d.system) (site_of d) c.requires.driving.work in
    let b = length-map d.system.blocks.items worker_of in
    let e = c.len-first.ensures in
    let w = c.requires.within in
    record { within = omega arith; order = by_channel d.forwarders.items (plan_of d.system) c.requires.driving.work.forwarders }

pub overflow_cast-result : goal.overflow_cast-result
overflow_cast-result g c =
    let d = c.args.self.now in
    let a = workers_count g.S.Agents.may (plan_of d.system) (site_of d) c.requires.driving.work in
    let b = length-map d.system.blocks.items worker_of in
    let e = c.len-first.ensures in
    let few = workers_few (plan_of d.system) c.requires.driving.plan in
    let w = c.next_forwarder.ensures.within in
    omega arith

pub returns-clause-within : goal.returns-clause-within
returns-clause-within g c =
    let d = c.args.self.now in
    let a = workers_count g.S.Agents.may (plan_of d.system) (site_of d) c.requires.driving.work in
    let b = length-map d.system.blocks.items worker_of in
    let e = c.len-first.ensures in
    let w = c.next_forwarder.ensures.within in
    omega arith

pub returns-clause-passed : goal.returns-clause-passed
returns-clause-passed g c n lower below =
    let d = c.args.self.now in
    let b = length-map d.system.blocks.items worker_of in
    let e = c.len-first.ensures in
    let place = c.if-place-first.false in
    passed_over g.S.Agents.may (plan_of d.system) (site_of d) c.requires.driving.work (c.requires.free c.if-not-free.false) (c.len-first.result + 1) (c.args.number - (c.len-first.result + 1)) c.next_forwarder.result
    (omega arith) c.next_forwarder.ensures.within c.next_forwarder.ensures.empty n (omega (arith, lower, place)) below
