use Rattle.std.proofs.Common.{None, take}
use Rattle.sdl_run_driver.specs.Drivers.{site_of, IsDriving, ReadsOver, WritesOver}
use Rattle.sdl_run_driver.specs.Systems.{plan_of, IsSameSystem}
use Rattle.sdl_run_driver.specs.Runs.{StepsThrough, scheduled}
use Rattle.sdl_run_driver.proofs.driver.Driver.run.Given as goal

abbrev pub invariant-loop-number : goal.invariant-loop-number
invariant-loop-number g l = record {
  driving : IsDriving g.S.Agents.may l.self;
  same : IsSameSystem l.fn.self.system l.self.system;
  steps : StepsThrough g.S.Agents.may (plan_of l.fn.self.system) (scheduled (plan_of l.fn.self.system) (take l.number-index l.schedule)) None (site_of l.fn.self) (site_of l.self);
  reading : ReadsOver (plan_of l.fn.self.system) l.fn.self.environment (g.R.Read.remaining l.fn.input) l.self.environment (g.R.Read.remaining l.input);
  writing : WritesOver (plan_of l.fn.self.system) l.fn.self.environment (g.W.Write.contents l.fn.output) l.self.environment (g.W.Write.contents l.output);
}
