use Rattle.std.proofs.Common.{arith}
use Rattle.std.proofs.lemmas.List.{length-map}
use Rattle.sdl_block.specs.Workers.{worker_of}
use Rattle.sdl_run_driver.specs.Drivers.{site_of}
use Rattle.sdl_run_driver.specs.Systems.{plan_of}
use Rattle.sdl_run_driver.proofs.Drives.{workers_count, workers_few}
use Rattle.sdl_run_driver.proofs.driver.Driver.workers.Goals as goal

pub returns-clause-count : goal.returns-clause-count
returns-clause-count g c =
    let d = c.args.self.now in
    let a = workers_count g.S.Agents.may (plan_of d.system) (site_of d) c.requires.work in
    let b = length-map d.system.blocks.items worker_of in
    let e = c.len.ensures in
    let f = c.len-2.ensures in
    omega arith

pub returns-clause-few : goal.returns-clause-few
returns-clause-few g c =
    let d = c.args.self.now in
    let a = workers_count g.S.Agents.may (plan_of d.system) (site_of d) c.requires.work in
    let b = length-map d.system.blocks.items worker_of in
    let e = c.len.ensures in
    let f = c.len-2.ensures in
    let few = workers_few (plan_of d.system) c.requires.plan in
    omega arith

pub overflow_cast-result : goal.overflow_cast-result
overflow_cast-result g c =
    let d = c.args.self.now in
    let a = workers_count g.S.Agents.may (plan_of d.system) (site_of d) c.requires.work in
    let b = length-map d.system.blocks.items worker_of in
    let e = c.len.ensures in
    let f = c.len-2.ensures in
    let few = workers_few (plan_of d.system) c.requires.plan in
    omega arith
