use Rattle.std.proofs.Common.{ap, sym, subst, ◌∙◌}
use Rattle.sdl_run.specs.Environment.{KeepsEnvironment}
use Rattle.sdl_run.proofs.Together.{kept_as}
use Rattle.sdl_run.proofs.beside.run_beside.Goals as goal

pub returns-clause-keeps : goal.returns-clause-keeps
returns-clause-keeps g c =
    let back = c.run_until_told-done.result.1 in
    let kept =
    subst (λ e. KeepsEnvironment c.args.structure.now c.args.routes.now e.worker e.astray back.ends (g.R.Read.remaining back.started_input.value) (g.R.Read.remaining back.input.now) (g.W.Write.contents back.started_output.value) (g.W.Write.contents back.output.now))
    (sym (c.worker-2-1.given.1 (sym c.run_until_told-done.ensures.environment) ∙ c.take_back.ensures)) c.run_until_told-done.ensures.keeps in
    kept_as c.args.structure.now c.args.routes.now _ _ back.ends (g.R.Read.remaining back.started_input.value) (g.R.Read.remaining c.args.input.now) (g.R.Read.remaining back.input.now) _
    (g.W.Write.contents back.started_output.value) (g.W.Write.contents c.args.output.now) (g.W.Write.contents back.output.now) _
    (ap g.R.Read.remaining (ap (λ v. v.value) c.run_until_told-done.ensures.started_input ∙ c.of-started_input.ensures)) (ap g.R.Read.remaining (sym (c.input-1.given.1 (sym c.run_until_told-done.ensures.input) ∙ c.take_back-2.ensures)))
    (ap g.W.Write.contents (ap (λ v. v.value) c.run_until_told-done.ensures.started_output ∙ c.of-started_output.ensures)) (ap g.W.Write.contents (sym (c.output-1.given.1 (sym c.run_until_told-done.ensures.output) ∙ c.take_back-3.ensures))) kept
