use Rattle.std.proofs.Common.{All, length, sym, subst}
use Rattle.sdl_structure_parts.specs.Structure.{Structure}
use Rattle.sdl_routes.specs.declared.route.Station.TheVariants.{Outlet}
use Rattle.sdl_instances.specs.Legal.{IsLegal}
use Rattle.sdl_instances.specs.Core.{signals_of, sets_of}
use Rattle.sdl_forward.specs.Boards.{waiting}
use Rattle.sdl_run_outcome.specs.EnvironmentWork.{GoesOut}
use Rattle.sdl_run_driver.specs.Drivers.{site_of}
use Rattle.sdl_run_driver.specs.Systems.{plan_of}
use Rattle.sdl_run_order.proofs.StepEnvironment.{outlet_goes}
use Rattle.sdl_run_driver.proofs.Drives.{reads_by, writes_by}
use Rattle.sdl_run_driver.proofs.driver.Driver.step_environment.Goals as goal

pub step_serial-requires-clause-outlet : goal.step_serial-requires-clause-outlet
step_serial-requires-clause-outlet g c =
    let d = c.args.self.now in
    subst (λ (s : Structure). All (λ i. IsLegal (signals_of s) (length (sets_of s)) d.system.routes i × GoesOut d.system.routes i) (waiting d.board Outlet)) (sym c.structure.ensures.structure)
    (outlet_goes g.S.Agents.may (plan_of d.system) c.requires.driving.plan (site_of d) c.requires.driving.work)

pub returns-clause-reading : goal.returns-clause-reading
returns-clause-reading g c =
    let d = c.args.self.now in
    reads_by (plan_of d.system) c.structure.result.now d.environment.number d.environment c.step_serial.new.self
    (g.R.Read.remaining c.args.input.now) (g.R.Read.remaining c.step_serial.new.input) c.structure.ensures.structure c.requires.driving.work.environment.number c.step_serial.ensures.reading

pub returns-clause-writing : goal.returns-clause-writing
returns-clause-writing g c =
    let d = c.args.self.now in
    writes_by (plan_of d.system) c.structure.result.now d.environment.number d.environment c.step_serial.new.self
    (g.W.Write.contents c.args.output.now) (g.W.Write.contents c.step_serial.new.output) c.structure.ensures.structure c.requires.driving.work.environment.number c.step_serial.ensures.writing
