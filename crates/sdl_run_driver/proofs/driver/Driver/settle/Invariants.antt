use Rattle.std.proofs.Common.{◌≡◌, None, true}
use Rattle.sdl_run_driver.specs.Drivers.{site_of, IsDriving, ReadsOver, WritesOver, AllFree}
use Rattle.sdl_run_driver.specs.Systems.{plan_of, IsSameSystem}
use Rattle.sdl_run_driver.specs.Runs.{Settles}
use Rattle.sdl_run_order.specs.Measure.{work_left}
use Rattle.sdl_run_driver.proofs.driver.Driver.settle.Given as goal

abbrev pub invariant-loop-worker : goal.invariant-loop-worker
invariant-loop-worker g l = record {
  driving : IsDriving g.S.Agents.may l.self;
  same : IsSameSystem l.fn.self.system l.self.system;
  free : l.free ≡ true → AllFree (site_of l.self);
  steps : Settles g.S.Agents.may (plan_of l.fn.self.system) None (site_of l.fn.self) (site_of l.self);
  reading : ReadsOver (plan_of l.fn.self.system) l.fn.self.environment (g.R.Read.remaining l.fn.input) l.self.environment (g.R.Read.remaining l.input);
  writing : WritesOver (plan_of l.fn.self.system) l.fn.self.environment (g.W.Write.contents l.fn.output) l.self.environment (g.W.Write.contents l.output);
}

abbrev pub decreases-loop-worker : goal.decreases-loop-worker
decreases-loop-worker g l = work_left (plan_of l.fn.self.system) (site_of l.self)
