use Rattle.std.proofs.Common.{◌≡◌, ◌-◌, ◌≤◌, None, true, length}
use Rattle.sdl_run_driver.specs.Drivers.{site_of, IsDriving, ReadsOver, WritesOver, AllFree, HasGone}
use Rattle.sdl_run_driver.specs.Systems.{plan_of, IsSameSystem}
use Rattle.sdl_run_outcome.specs.Plan.{workers_of}
use Rattle.sdl_run_driver.specs.Runs.{workers_below, StepsThrough}
use Rattle.sdl_run_driver.proofs.driver.Driver.round.Given as goal

abbrev pub invariant-loop-number : goal.invariant-loop-number
invariant-loop-number g l = record {
  driving : IsDriving g.S.Agents.may l.self;
  same : IsSameSystem l.fn.self.system l.self.system;
  within : l.number ≤ length (workers_of (plan_of l.fn.self.system));
  free : l.free ≡ true → AllFree (site_of l.self);
  reading : ReadsOver (plan_of l.fn.self.system) l.fn.self.environment (g.R.Read.remaining l.fn.input) l.self.environment (g.R.Read.remaining l.input);
  writing : WritesOver (plan_of l.fn.self.system) l.fn.self.environment (g.W.Write.contents l.fn.output) l.self.environment (g.W.Write.contents l.output);
  steps : StepsThrough g.S.Agents.may (plan_of l.fn.self.system) (workers_below l.number) None (site_of l.fn.self) (site_of l.self);
  gone : HasGone (plan_of l.fn.self.system) (site_of l.fn.self) (site_of l.self) l.did l.number;
}

abbrev pub decreases-loop-number : goal.decreases-loop-number
decreases-loop-number g l = l.workers - l.number
