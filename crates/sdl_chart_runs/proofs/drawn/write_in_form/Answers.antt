use Rattle.std.proofs.Common.{◌≡◌, ℕ, List, Option, IfOk, IfErr, sym, subst}
use Rattle.std.specs.Io.KnownBytes.{Appends}
use Rattle.sdl_signal.specs.declared.ends.OutputEnd.{OutputEnd}
use Rattle.sdl_signal.specs.declared.ends.OutputEnd.TheVariants as output
use Rattle.sdl_chart_words.specs.declared.asked.ChartForm.{ChartForm}
use Rattle.sdl_chart_runs.specs.Charts.{IsTextOf, IsWhyNoText}
use Rattle.sdl_chart_runs.proofs.drawn.write_in_form.Goals as goal

pub returns-in-Some-clause-text : goal.returns-in-Some-clause-text
returns-in-Some-clause-text g c =
    subst (λ (form : Option ChartForm). IfOk c.write_as.result (λ (end : OutputEnd). end ≡ output.Whole → (text : List ℕ)
    × IsTextOf g.K.LogStore.events form c.args.charting.now c.args.chart.now c.args.first c.args.past text × Appends (g.W.Write.contents c.args.output.now) (g.W.Write.contents c.write_as.new.output) text))
    (sym c.in-Some.is) c.write_as.ensures.text

pub returns-in-Some-clause-why : goal.returns-in-Some-clause-why
returns-in-Some-clause-why g c = subst (λ (form : Option ChartForm). IfErr c.write_as.result (IsWhyNoText form)) (sym c.in-Some.is) c.write_as.ensures.why

pub returns-in-None-clause-text : goal.returns-in-None-clause-text
returns-in-None-clause-text g c = λ whole.
    subst (λ (form : Option ChartForm). (text : List ℕ)
    × IsTextOf g.K.LogStore.events form c.args.charting.now c.args.chart.now c.args.first c.args.past text × Appends (g.W.Write.contents c.args.output.now) (g.W.Write.contents c.write_lines.new.output) text)
    (sym c.in-None.is) (c.write_lines.ensures.text c.args.charting.now whole)
