use Rattle.std.proofs.Common.{◌+◌, length, sym, subst}
use Rattle.sdl_run_outcome.specs.Plan.{Plan}
use Rattle.sdl_run_driver.specs.Closings.{HasRoom, HasReadIn, HasWrittenIn, IsRunOf, outcome_in}
use Rattle.sdl_run_driver.specs.Ended.{HasEnded}
use Rattle.sdl_run_serial.proofs.Fresh.{fresh, driving, empty_as, room_at, start_plan, start_bound}
use Rattle.sdl_run_serial.proofs.serial.run_in.Goals as goal

pub start_system-requires-clause-empty : goal.start_system-requires-clause-empty
start_system-requires-clause-empty g c = (c.requires.start_room.workers, c.requires.start_room.room_empty.0)

pub start_system-requires-clause-workers : goal.start_system-requires-clause-workers
start_system-requires-clause-workers g c = c.requires.start_room.workers_room

pub start_system-requires-clause-parts : goal.start_system-requires-clause-parts
start_system-requires-clause-parts g c = c.requires.start_room.room.parts

pub drive-requires-clause-driving : goal.drive-requires-clause-driving
drive-requires-clause-driving g c =
    driving g.S.Agents.may c.in-Ok.system c.in-Ok.ensures.started c.args.start_room (room_at c.args.system c.in-Ok.system c.in-Ok.ensures.same c.args.start_room c.requires.start_room)

pub drive-requires-clause-fresh : goal.drive-requires-clause-fresh
drive-requires-clause-fresh g c =
    fresh g.S.Agents.may c.in-Ok.system c.in-Ok.ensures.started c.args.start_room (room_at c.args.system c.in-Ok.system c.in-Ok.ensures.same c.args.start_room c.requires.start_room)

pub drive-requires-clause-system : goal.drive-requires-clause-system
drive-requires-clause-system g c = c.in-Ok.ensures.started.system

pub drive-requires-clause-room : goal.drive-requires-clause-room
drive-requires-clause-room g c =
    let n = length c.in-Ok.system.blocks.items in
    let r = room_at c.args.system c.in-Ok.system c.in-Ok.ensures.same c.args.start_room c.requires.start_room in
    subst (λ v. HasRoom n (n + (length c.args.start_room.forwarders.items + 1)) v) (sym c.in-Ok.ensures.room) r.room

pub drive-requires-clause-empty : goal.drive-requires-clause-empty
drive-requires-clause-empty g c = empty_as c.in-Ok.room c.args.start_room.room c.in-Ok.ensures.room c.requires.start_room.room_empty

pub returns-in-Ok-clause-ended : goal.returns-in-Ok-clause-ended
returns-in-Ok-clause-ended g c =
    subst (λ (p : Plan). HasEnded g.S.Agents.may p (outcome_in g.K.LogStore.events c.drive.result) c.drive.result.end c.drive.result.ledger) (start_plan c.args.system c.in-Ok.system c.in-Ok.ensures.same) c.drive.ensures.ended

pub returns-in-Ok-clause-run : goal.returns-in-Ok-clause-run
returns-in-Ok-clause-run g c =
    subst (λ (p : Plan). IsRunOf g.S.Agents.may p c.args.schedule.now g.K.LogStore.events c.drive.result) (start_plan c.args.system c.in-Ok.system c.in-Ok.ensures.same) c.drive.ensures.run

pub returns-in-Ok-clause-reading : goal.returns-in-Ok-clause-reading
returns-in-Ok-clause-reading g c =
    subst (λ (p : Plan). HasReadIn p (g.R.Read.remaining c.args.input.now) (g.R.Read.remaining c.drive.new.input) c.drive.result) (start_plan c.args.system c.in-Ok.system c.in-Ok.ensures.same) c.drive.ensures.reading

pub returns-in-Ok-clause-writing : goal.returns-in-Ok-clause-writing
returns-in-Ok-clause-writing g c =
    subst (λ (p : Plan). HasWrittenIn p (g.W.Write.contents c.args.output.now) (g.W.Write.contents c.drive.new.output) c.drive.result) (start_plan c.args.system c.in-Ok.system c.in-Ok.ensures.same) c.drive.ensures.writing

pub returns-in-Ok-clause-bound : goal.returns-in-Ok-clause-bound
returns-in-Ok-clause-bound g c = start_bound c.args.system c.in-Ok.system c.in-Ok.ensures.same c.drive.result.bound c.drive.ensures.bound
