use Rattle.std.proofs.Common.{subst}
use Rattle.sdl_run_outcome.specs.Plan.{Plan}
use Rattle.sdl_run_driver.specs.Closings.{IsRunOf, outcome_in}
use Rattle.sdl_run_driver.specs.Ended.{HasEnded}
use Rattle.sdl_run_driver.proofs.Systems.{bound_plan}
use Rattle.sdl_run_serial.proofs.Fresh.{same_bound}
use Rattle.sdl_run_serial.proofs.OfBound.{reading_bound, writing_bound}
use Rattle.sdl_run_serial.proofs.serial.run_keeping.Goals as goal

pub returns-in-Ok-run_in-clause-ended : goal.returns-in-Ok-run_in-clause-ended
returns-in-Ok-run_in-clause-ended g c =
    let x = c.in-Ok-run_in.closing in
    let same = c.with_budget-system.ensures in
    subst (λ (p : Plan). HasEnded g.S.Agents.may p (outcome_in g.K.LogStore.events x) x.end x.ledger) (bound_plan c.with_budget-system.result c.args.bound c.args.budget same.same same.budget) c.in-Ok-run_in.ensures.ended

pub returns-in-Ok-run_in-clause-reading : goal.returns-in-Ok-run_in-clause-reading
returns-in-Ok-run_in-clause-reading g c =
    let same = c.with_budget-system.ensures in
    reading_bound c.with_budget-system.result c.args.bound c.args.budget same.same same.budget c.in-Ok-run_in.closing _ _ c.in-Ok-run_in.ensures.reading

pub returns-in-Ok-run_in-clause-writing : goal.returns-in-Ok-run_in-clause-writing
returns-in-Ok-run_in-clause-writing g c =
    let same = c.with_budget-system.ensures in
    writing_bound c.with_budget-system.result c.args.bound c.args.budget same.same same.budget c.in-Ok-run_in.closing _ _ c.in-Ok-run_in.ensures.writing

pub returns-in-Ok-run_in-clause-run : goal.returns-in-Ok-run_in-clause-run
returns-in-Ok-run_in-clause-run g c =
    let same = c.with_budget-system.ensures in
    subst (λ (p : Plan). IsRunOf g.S.Agents.may p c.args.schedule.now g.K.LogStore.events c.in-Ok-run_in.closing) (bound_plan c.with_budget-system.result c.args.bound c.args.budget same.same same.budget) c.in-Ok-run_in.ensures.run

pub returns-in-Ok-run_in-clause-bound : goal.returns-in-Ok-run_in-clause-bound
returns-in-Ok-run_in-clause-bound g c = same_bound c.with_budget-system.result c.args.bound c.in-Ok-run_in.closing.bound c.with_budget-system.ensures.same c.in-Ok-run_in.ensures.bound
