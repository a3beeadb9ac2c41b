use Rattle.std.proofs.Common.{◌≡◌, ◌⊎◌, Bool, inl, inr, refl, sym, subst}
use Rattle.sdl_transition.specs.Bound.{structure_of}
use Rattle.sdl_run_driver.specs.Closings.{plan_of_bound}
use Rattle.sdl_graph_program.specs.Outcomes.{HasMadeAudited}
use Rattle.sdl_graph_program.proofs.runs.run_told.Goals as goal

pub returns-then-audit-clause-made : goal.returns-then-audit-clause-made
returns-then-audit-clause-made g c =
    subst (λ (a : Bool). (c.run_audited.result ≡ 1) ⊎ HasMadeAudited g.S.Agents.may (plan_of_bound c.args.bound (structure_of c.args.bound).budget) c.args.settings.options a (g.R.Read.remaining c.args.input.now) (g.R.Read.remaining c.run_audited.new.input) (g.W.Write.contents c.args.output.now) (g.W.Write.contents c.run_audited.new.output) c.run_audited.result)
    (sym c.if-audit.true) c.run_audited.ensures.made

pub returns-else-audit-clause-made : goal.returns-else-audit-clause-made
returns-else-audit-clause-made g c =
    subst (λ (a : Bool). (c.run_bound_in_threads.result ≡ 1) ⊎ HasMadeAudited g.S.Agents.may (plan_of_bound c.args.bound (structure_of c.args.bound).budget) c.args.settings.options a (g.R.Read.remaining c.args.input.now) (g.R.Read.remaining c.run_bound_in_threads.new.input) (g.W.Write.contents c.args.output.now) (g.W.Write.contents c.run_bound_in_threads.new.output) c.run_bound_in_threads.result)
    (sym c.if-audit.false)
    (elim c.run_bound_in_threads.ensures.made [
      | inl refused ↦ inl refused
      | inr made ↦ inr (c.run_bound_in_threads.result, _, made, (refl, refl))
    ])
