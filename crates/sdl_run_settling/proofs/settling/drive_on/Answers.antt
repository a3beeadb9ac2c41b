use Rattle.std.proofs.Common.{sym, subst, MatchOption, ◌<◌, length}
use Rattle.sdl_run_outcome.specs.Plan.{Plan, workers_of}
use Rattle.sdl_run_order.specs.Driver.{IsIdle}
use Rattle.sdl_run_driver.proofs.Drives.{same_plan}
use Rattle.sdl_run_driver.specs.Closings.{outcome_in}
use Rattle.sdl_run_driver.specs.Drivers.{site_of}
use Rattle.sdl_run_serial.proofs.Fresh.{system_same, room_same, ended_same, bound_same}
use Rattle.sdl_run_settling.proofs.Settles.{reading_over, writing_over}
use Rattle.sdl_run_settling.proofs.settling.drive_on.Goals as goal

pub close-requires-clause-system : goal.close-requires-clause-system
close-requires-clause-system g c = system_same g.S.Agents.may c.args.driver.system c.run-refused.new.self.system c.run-refused.ensures.same c.requires.system

pub close-requires-clause-room : goal.close-requires-clause-room
close-requires-clause-room g c =
    room_same g.S.Agents.may c.args.driver.system c.run-refused.new.self.system c.run-refused.ensures.same c.args.room c.args.driver.forwarders.items c.run-refused.new.self.forwarders.items
    c.requires.driving.work.forwarders c.run-refused.ensures.driving.work.forwarders c.requires.room

pub close-requires-clause-refused : goal.close-requires-clause-refused
close-requires-clause-refused g c =
    subst (λ (p : Plan). MatchOption c.run-refused.result (IsIdle (site_of c.run-refused.new.self)) (λ w. w < length (workers_of p)))
    (sym (same_plan c.args.driver.system c.run-refused.new.self.system c.run-refused.ensures.same)) c.run-refused.ensures.answer

pub returns-clause-ended : goal.returns-clause-ended
returns-clause-ended g c = ended_same g.S.Agents.may c.args.driver.system c.run-refused.new.self.system c.run-refused.ensures.same (outcome_in g.K.LogStore.events c.close.result) c.close.result.end c.close.result.ledger c.close.ensures.ended

pub returns-clause-reading : goal.returns-clause-reading
returns-clause-reading g c = reading_over c.args.driver c.run-refused.new.self c.run-refused.ensures.same c.close.result _ _ c.run-refused.ensures.reading c.close.ensures.reading

pub returns-clause-writing : goal.returns-clause-writing
returns-clause-writing g c = writing_over c.args.driver c.run-refused.new.self c.run-refused.ensures.same c.close.result _ _ c.run-refused.ensures.writing c.close.ensures.writing

pub returns-clause-bound : goal.returns-clause-bound
returns-clause-bound g c = bound_same g.S.Agents.may c.args.driver.system c.run-refused.new.self.system c.run-refused.ensures.same c.close.result.bound c.close.ensures.bound
