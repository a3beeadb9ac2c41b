use Rattle.std.proofs.Common.{◌≡◌, ℕ, List, Contains, map, length, ap, sym, ◌∙◌, subst, arith, rules}
use Rattle.std.proofs.lemmas.List.{length-map}
use Rattle.sdl_block.specs.Workers.{worker_of}
use Rattle.sdl_run_driver.proofs.Drives.{workers_count, workers_few}
use Rattle.sdl_run_driver.specs.Stopped.{site_of_parked}
use Rattle.sdl_run_driver.specs.Systems.{plan_of}
use Rattle.sdl_routes.specs.declared.route.Station.{Station}
use Rattle.sdl_forward.specs.Boards.{stations_of, lists_of}
use Rattle.sdl_forward.specs.Forwards.{Forwarding}
use Rattle.sdl_forward_opening.specs.Workers.{Among, taker}
use Rattle.sdl_run_settling.specs.Takers.{workers_with}
use Rattle.sdl_run_settling.proofs.Takers.{hops_of}
use Rattle.sdl_run_settling.proofs.Settles.{left_once, on_board, taker_left}
use Rattle.sdl_run_settling.proofs.settling.settle_rests.Goals as goal

pub adopt-requires : goal.adopt-requires
adopt-requires g c = record { once = left_once g.S.Agents.may c.args.parked c.requires.parked }

pub drive_on-requires-clause-driving : goal.drive_on-requires-clause-driving
drive_on-requires-clause-driving g c = on_board g.S.Agents.may c.args.parked c.requires.parked c.in-Ok.board c.in-Ok.ensures.lists

pub number_of_taker-worker-requires-clause-few : goal.number_of_taker-worker-requires-clause-few
number_of_taker-worker-requires-clause-few g c =
    let a = workers_count g.S.Agents.may (plan_of c.args.parked.system) (site_of_parked c.args.parked) c.requires.parked.work in
    let b = workers_few (plan_of c.args.parked.system) c.requires.parked.plan in
    let d = ap length c.as_slice.ensures.value in
    omega (arith, a, b, d)

pub number_of_taker-worker-requires-clause-taken : goal.number_of_taker-worker-requires-clause-taken
number_of_taker-worker-requires-clause-taken g c =
    let taken = taker_left g.S.Agents.may c.args.parked c.requires.parked c.in-Err.station c.in-Err.ensures.lists.1 in
    let told = c.len.ensures in
    let count : c.len.result ≡ length c.args.parked.system.blocks.items = first_of (omega (arith, told), search rules) in
    subst (λ (fs : List Forwarding). Among (taker c.in-Err.station) (workers_with c.len.result (hops_of fs))) (sym c.as_slice.ensures.value)
    (subst (λ (n : ℕ). Among (taker c.in-Err.station) (workers_with n (hops_of c.args.parked.forwarders.items))) (sym count) taken)

pub close-requires-clause-driving : goal.close-requires-clause-driving
close-requires-clause-driving g c = on_board g.S.Agents.may c.args.parked c.requires.parked (lists_of c.in-Err.rests.items) c.in-Err.ensures.lists.0

pub close-requires-clause-refused : goal.close-requires-clause-refused
close-requires-clause-refused g c =
    let a = workers_count g.S.Agents.may (plan_of c.args.parked.system) (site_of_parked c.args.parked) c.requires.parked.work in
    let b = workers_few (plan_of c.args.parked.system) c.requires.parked.plan in
    let d = ap length c.as_slice.ensures.value in
    let e = length-map c.args.parked.system.blocks.items worker_of in
    let f = c.number_of_taker-worker.ensures.bound in
    let h = c.len.ensures in
    omega (arith, a, b, d, e, f, h)

pub returns-in-Err-clause-reading : goal.returns-in-Err-clause-reading
returns-in-Err-clause-reading g c start h = c.close.ensures.reading start _ h

pub returns-in-Err-clause-writing : goal.returns-in-Err-clause-writing
returns-in-Err-clause-writing g c start h = c.close.ensures.writing start _ h
