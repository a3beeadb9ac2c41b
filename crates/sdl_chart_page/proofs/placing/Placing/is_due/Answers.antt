use Rattle.sdl_chart_page.proofs.Noting.{no_change}
use Rattle.sdl_chart_page.proofs.placing.Placing.is_due.Goals as goal

pub returns-in-Turn-clause-same : goal.returns-in-Turn-clause-same
returns-in-Turn-clause-same c = no_change c.args.self.now.places

pub returns-in-Put-clause-same : goal.returns-in-Put-clause-same
returns-in-Put-clause-same c = no_change c.args.self.now.places
