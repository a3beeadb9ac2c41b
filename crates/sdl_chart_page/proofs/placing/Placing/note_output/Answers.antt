use Rattle.std.proofs.Common.{[], sym, subst}
use Rattle.sdl_run_outcome.specs.declared.environment_output.EnvOut.{EnvOut}
use Rattle.sdl_run_outcome.specs.EnvironmentWork.{sent_of}
use Rattle.sdl_chart_page.specs.Pages.{IsNoted, AreNoted}
use Rattle.sdl_chart_page.proofs.Noting.{none_noted, one_noted}
use Rattle.sdl_chart_page.proofs.Texts.{on_ok}
use Rattle.sdl_chart_page.proofs.placing.Placing.note_output.Goals as goal

pub returns-in-Sent-clause-noted : goal.returns-in-Sent-clause-noted
returns-in-Sent-clause-noted c =
    let old = c.args.self.now.places in
    let new = c.note.new.self.places in
    on_ok c.note.result (IsNoted c.in-Sent.item.origin (record { row = c.args.row; among = 0 }) old new) (AreNoted c.args.row 0 (sent_of c.args.output.now) old new)
    (λ noted.
    subst (λ (o : EnvOut). AreNoted c.args.row 0 (sent_of o) old new) (sym c.in-Sent.is) (one_noted c.args.row 0 [] c.in-Sent.item old old new (none_noted c.args.row 1 old) noted))
    c.note.ensures.noted
