use Rattle.std.proofs.Common.{subst, arith}
use Rattle.sdl_run_outcome.specs.Plan.{Plan}
use Rattle.sdl_run_driver.specs.Closings.{outcome_in}
use Rattle.sdl_run_driver.specs.Ended.{HasEnded}
use Rattle.sdl_run_driver.proofs.Systems.{bound_plan}
use Rattle.sdl_run_serial.proofs.Fresh.{same_bound}
use Rattle.sdl_run_serial.proofs.OfBound.{reading_bound, writing_bound}
use Rattle.sdl_run.proofs.threads.run_threads_keeping.Goals as goal

pub make_thread_room-requires-clause-routes : goal.make_thread_room-requires-clause-routes
make_thread_room-requires-clause-routes g c = c.with_budget-system.ensures.system.routes_are

pub make_thread_room-requires-clause-blocks : goal.make_thread_room-requires-clause-blocks
make_thread_room-requires-clause-blocks g c =
    let count = c.with_budget-system.ensures.system.distributed.blocks_are in
    let blocks = c.len.ensures in
    let own = c.with_budget-system.result.blocks.ok.0 in
    omega (arith, count, blocks, own)

pub run_in-requires-clause-system : goal.run_in-requires-clause-system
run_in-requires-clause-system g c κs outlives = c.with_budget-system.ensures.system

pub returns-in-Ok-run_in-clause-ended : goal.returns-in-Ok-run_in-clause-ended
returns-in-Ok-run_in-clause-ended g c =
    let x = c.in-Ok-run_in.ended.closing in
    let same = c.with_budget-system.ensures in
    subst (λ (p : Plan). HasEnded g.S.Agents.may p (outcome_in g.K.LogStore.events x) x.end x.ledger) (bound_plan c.with_budget-system.result c.args.bound c.args.budget same.same same.budget) c.in-Ok-run_in.ensures.ended

pub returns-in-Ok-run_in-clause-reading : goal.returns-in-Ok-run_in-clause-reading
returns-in-Ok-run_in-clause-reading g c =
    let same = c.with_budget-system.ensures in
    reading_bound c.with_budget-system.result c.args.bound c.args.budget same.same same.budget c.in-Ok-run_in.ended.closing _ _ c.in-Ok-run_in.ensures.reading

pub returns-in-Ok-run_in-clause-writing : goal.returns-in-Ok-run_in-clause-writing
returns-in-Ok-run_in-clause-writing g c =
    let same = c.with_budget-system.ensures in
    writing_bound c.with_budget-system.result c.args.bound c.args.budget same.same same.budget c.in-Ok-run_in.ended.closing _ _ c.in-Ok-run_in.ensures.writing

pub returns-in-Ok-run_in-clause-bound : goal.returns-in-Ok-run_in-clause-bound
returns-in-Ok-run_in-clause-bound g c = same_bound c.with_budget-system.result c.args.bound c.in-Ok-run_in.ended.closing.bound c.with_budget-system.ensures.same c.in-Ok-run_in.ensures.bound
