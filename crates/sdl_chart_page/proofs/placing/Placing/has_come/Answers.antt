use Rattle.std.proofs.Common.{sym}
use Rattle.sdl_chart_page.proofs.Noting.{awaits, no_change}
use Rattle.sdl_chart_page.proofs.placing.Placing.has_come.Goals as goal

pub returns-in-Some-clause-same : goal.returns-in-Some-clause-same
returns-in-Some-clause-same c = no_change c.args.self.now.places

pub returns-in_ok-reach-in-None-clause-same : goal.returns-in_ok-reach-in-None-clause-same
returns-in_ok-reach-in-None-clause-same c = awaits c.args.self.now.places c.reach.new.self c.put.new.self c.args.origin c.args.list (sym c.in-None.ensures) c.reach.ensures.grown c.put.ensures
