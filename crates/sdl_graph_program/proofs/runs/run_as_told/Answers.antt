use Rattle.std.proofs.Common.{◌≡◌, ◌⊎◌, Option, option_map, inl, inr, sym, subst}
use Rattle.sdl_transition.specs.Bound.{structure_of}
use Rattle.sdl_run_driver.specs.Closings.{plan_of_bound}
use Rattle.sdl_chart_runs.specs.declared.drawn.ToChart.{ToChart}
use Rattle.sdl_graph_program.specs.Outcomes.{HasMadeAsked}
use Rattle.sdl_graph_program.proofs.runs.run_as_told.Goals as goal

pub returns-in-Some-clause-made : goal.returns-in-Some-clause-made
returns-in-Some-clause-made g c =
    let t = c.args.telling.now in
    subst (λ (chart : Option ToChart). (c.run_charted.result ≡ 1) ⊎ HasMadeAsked g.S.Agents.may (plan_of_bound c.args.bound (structure_of c.args.bound).budget) (option_map (λ (x : ToChart). x.charting) chart) c.args.settings.options t.audit (g.R.Read.remaining c.args.input.now) (g.R.Read.remaining c.run_charted.new.input) (g.W.Write.contents c.args.output.now) (g.W.Write.contents c.run_charted.new.output) c.run_charted.result)
    (sym c.in-Some.is)
    (elim c.run_charted.ensures.made [
      | inl refused ↦ inl refused
      | inr made ↦ inr (_, made)
    ])

pub returns-in-None-clause-made : goal.returns-in-None-clause-made
returns-in-None-clause-made g c =
    let t = c.args.telling.now in
    subst (λ (chart : Option ToChart). (c.run_told.result ≡ 1) ⊎ HasMadeAsked g.S.Agents.may (plan_of_bound c.args.bound (structure_of c.args.bound).budget) (option_map (λ (x : ToChart). x.charting) chart) c.args.settings.options t.audit (g.R.Read.remaining c.args.input.now) (g.R.Read.remaining c.run_told.new.input) (g.W.Write.contents c.args.output.now) (g.W.Write.contents c.run_told.new.output) c.run_told.result)
    (sym c.in-None.is) c.run_told.ensures.made
