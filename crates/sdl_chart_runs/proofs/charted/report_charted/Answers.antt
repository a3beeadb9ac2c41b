use Rattle.std.proofs.Common.{Vec, Global, sym, subst}
use Rattle.sdl_run_outcome.specs.Outcome.{Outcome}
use Rattle.sdl_chart_page.specs.Entries.{AreStored}
use Rattle.sdl_chart_page.specs.Pages.{AreOrderly}
use Rattle.sdl_chart_runs.specs.Charts.{entries_left}
use Rattle.sdl_chart_runs.proofs.Told.{same_outcome, told_again}
use Rattle.sdl_chart_runs.proofs.charted.report_charted.Goals as goal

pub report_read-requires-clause-stored : goal.report_read-requires-clause-stored
report_read-requires-clause-stored g c = subst (λ (logs : Vec _ Global). AreStored g.K.Shows.stores logs.items) (sym c.audit-closing.ensures.same.logs) c.requires.stored

pub report_read-requires-clause-orderly : goal.report_read-requires-clause-orderly
report_read-requires-clause-orderly g c =
    subst (λ (o : Outcome). AreOrderly (entries_left o)) (sym (same_outcome g.K.LogStore.events c.args.closing c.audit-closing.result.0 c.audit-closing.ensures.same)) c.requires.orderly

pub returns-clause-told : goal.returns-clause-told
returns-clause-told g c =
    told_again g.K.LogStore.events c.args.closing c.audit-closing.result.0 c.audit-closing.ensures.same
    c.args.to_chart.now.states c.args.to_chart.now.charting _ _ c.report_read.result c.report_read.ensures.told
