use Rattle.std.proofs.Common.{length, sym, subst, arith}
use Rattle.sdl_run_outcome.specs.Plan.{Plan}
use Rattle.sdl_run_driver.specs.Closings.{HasReadIn, HasWrittenIn, outcome_in}
use Rattle.sdl_run_driver.specs.Ended.{HasEnded}
use Rattle.sdl_run_serial.proofs.Fresh.{empty_as, start_plan, start_count, start_bound, system_same, room_same, ended_same, bound_same}
use Rattle.sdl_run_serial.proofs.Begins.{room_for}
use Rattle.sdl_run.proofs.Whole.{opened_at, room_started, hops_opened, reading_parked, writing_parked}
use Rattle.sdl_run.proofs.Stops.{as_they_came}
use Rattle.sdl_run.proofs.threads.run_in.Goals as goal

pub start_system-requires-clause-empty : goal.start_system-requires-clause-empty
start_system-requires-clause-empty g c = (c.requires.room.started_empty, c.requires.room.room_empty.0)

pub start_system-requires-clause-workers : goal.start_system-requires-clause-workers
start_system-requires-clause-workers g c =
    let count = c.requires.system.distributed.blocks_are in
    room_for c.args.thread_room.started (length c.args.system.blocks.items) (length c.args.system.checked.blocks) (omega (arith, count)) c.requires.room.started

pub start_system-requires-clause-parts : goal.start_system-requires-clause-parts
start_system-requires-clause-parts g c =
    let count = c.requires.system.distributed.blocks_are in
    room_for c.args.thread_room.room.parts (length c.args.system.blocks.items) (length c.args.system.checked.blocks) (omega (arith, count)) c.requires.room.room.parts

pub run_apart-stopped-requires-clause-ready : goal.run_apart-stopped-requires-clause-ready
run_apart-stopped-requires-clause-ready g c κs outlives =
    record { started = c.in-Ok.ensures.started; opened = opened_at c.args.system c.in-Ok.system c.in-Ok.ensures.same c.args.thread_room.opened c.requires.room.opened }

pub settle-requires-clause-system : goal.settle-requires-clause-system
settle-requires-clause-system g c = system_same g.S.Agents.may c.in-Ok.system c.run_apart-stopped.result.parked.system c.run_apart-stopped.ensures.same c.in-Ok.ensures.started.system

pub settle-requires-clause-room : goal.settle-requires-clause-room
settle-requires-clause-room g c =
    let lines = c.args.thread_room.opened.forwarders.items in
    let parked = c.run_apart-stopped.result.parked in
    room_same g.S.Agents.may c.in-Ok.system parked.system c.run_apart-stopped.ensures.same c.in-Ok.room lines parked.forwarders.items
    (hops_opened c.args.system c.in-Ok.system c.in-Ok.ensures.same c.args.thread_room.opened c.requires.room.opened) c.run_apart-stopped.ensures.parked.work.forwarders
    (room_started c.args.system c.in-Ok.system c.in-Ok.ensures.same (length lines) c.in-Ok.room c.args.thread_room.room c.in-Ok.ensures.room c.requires.system.distributed.blocks_are c.requires.room.room)

pub settle-requires-clause-empty : goal.settle-requires-clause-empty
settle-requires-clause-empty g c = empty_as c.in-Ok.room c.args.thread_room.room c.in-Ok.ensures.room c.requires.room.room_empty

pub returns-in-Ok-clause-ended : goal.returns-in-Ok-clause-ended
returns-in-Ok-clause-ended g c =
    let x = c.settle.result in
    subst (λ (p : Plan). HasEnded g.S.Agents.may p (outcome_in g.K.LogStore.events x) x.end x.ledger) (start_plan c.args.system c.in-Ok.system c.in-Ok.ensures.same)
    (ended_same g.S.Agents.may c.in-Ok.system c.run_apart-stopped.result.parked.system c.run_apart-stopped.ensures.same (outcome_in g.K.LogStore.events x) x.end x.ledger c.settle.ensures.ended)

pub returns-in-Ok-clause-reading : goal.returns-in-Ok-clause-reading
returns-in-Ok-clause-reading g c =
    subst (λ (p : Plan). HasReadIn p (g.R.Read.remaining c.args.input.now) (g.R.Read.remaining c.settle.new.input) c.settle.result) (start_plan c.args.system c.in-Ok.system c.in-Ok.ensures.same)
    (reading_parked c.in-Ok.system c.run_apart-stopped.result.parked c.run_apart-stopped.ensures.same c.settle.result _ _ _ c.run_apart-stopped.ensures.reading c.settle.ensures.reading)

pub returns-in-Ok-clause-writing : goal.returns-in-Ok-clause-writing
returns-in-Ok-clause-writing g c =
    subst (λ (p : Plan). HasWrittenIn p (g.W.Write.contents c.args.output.now) (g.W.Write.contents c.settle.new.output) c.settle.result) (start_plan c.args.system c.in-Ok.system c.in-Ok.ensures.same)
    (writing_parked c.in-Ok.system c.run_apart-stopped.result.parked c.run_apart-stopped.ensures.same c.settle.result _ _ _ c.run_apart-stopped.ensures.writing c.settle.ensures.writing)

pub returns-in-Ok-clause-named : goal.returns-in-Ok-clause-named
returns-in-Ok-clause-named g c =
    as_they_came g.K.LogStore.events c.settle.result c.of-came.result.value c.run_apart-stopped.result c.of-came.ensures (length c.args.system.blocks.items) (length c.in-Ok.system.blocks.items) (sym (start_count c.args.system c.in-Ok.system c.in-Ok.ensures.same))
    c.run_apart-stopped.ensures.named c.settle.ensures.refusal c.settle.ensures.left

pub returns-in-Ok-clause-bound : goal.returns-in-Ok-clause-bound
returns-in-Ok-clause-bound g c =
    start_bound c.args.system c.in-Ok.system c.in-Ok.ensures.same c.settle.result.bound
    (bound_same g.S.Agents.may c.in-Ok.system c.run_apart-stopped.result.parked.system c.run_apart-stopped.ensures.same c.settle.result.bound c.settle.ensures.bound)
