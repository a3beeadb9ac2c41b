use Rattle.sdl_graph_program.proofs.Ended.{told_again}
use Rattle.sdl_graph_program.proofs.audited.report_audited.Goals as goal

pub returns-clause-told : goal.returns-clause-told
returns-clause-told g c = (
  c.report_closing-told.result,
  _,
  told_again c.args.closing.input _ c.args.closing.output _ c.args.closing.end _ c.report_closing-told.result c.audit-closing.ensures.same.input c.audit-closing.ensures.same.output c.audit-closing.ensures.same.end c.report_closing-told.ensures.status,
  c.report_closing-told.ensures.no_books,
  c.report_audit.ensures.audited,
)
