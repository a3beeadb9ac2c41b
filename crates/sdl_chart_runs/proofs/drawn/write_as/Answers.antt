use Rattle.std.proofs.Common.{◌≡◌, ℕ, List, Some, IfOk, IfErr, sym, subst}
use Rattle.std.specs.Io.KnownBytes.{Appends}
use Rattle.sdl_signal.specs.declared.ends.OutputEnd.{OutputEnd}
use Rattle.sdl_signal.specs.declared.ends.OutputEnd.TheVariants as output
use Rattle.sdl_chart_words.specs.declared.asked.ChartForm.{ChartForm}
use Rattle.sdl_chart_runs.specs.Charts.{IsTextOf, IsWhyNoText}
use Rattle.sdl_chart_runs.proofs.drawn.write_as.Goals as goal

pub returns-in-Svg-clause-text : goal.returns-in-Svg-clause-text
returns-in-Svg-clause-text g c =
    subst (λ (form : ChartForm). IfOk c.write_drawing.result (λ (end : OutputEnd). end ≡ output.Whole → (text : List ℕ)
    × IsTextOf g.K.LogStore.events (Some form) c.args.charting.now c.args.chart.now c.args.first c.args.past text × Appends (g.W.Write.contents c.args.output.now) (g.W.Write.contents c.write_drawing.new.output) text))
    (sym c.in-Svg.is) c.write_drawing.ensures.text

pub returns-in-Svg-clause-why : goal.returns-in-Svg-clause-why
returns-in-Svg-clause-why g c = subst (λ (form : ChartForm). IfErr c.write_drawing.result (IsWhyNoText (Some form))) (sym c.in-Svg.is) c.write_drawing.ensures.why

pub returns-in-Msc-clause-text : goal.returns-in-Msc-clause-text
returns-in-Msc-clause-text g c =
    subst (λ (form : ChartForm). IfOk c.write_z120.result (λ (end : OutputEnd). end ≡ output.Whole → (text : List ℕ)
    × IsTextOf g.K.LogStore.events (Some form) c.args.charting.now c.args.chart.now c.args.first c.args.past text × Appends (g.W.Write.contents c.args.output.now) (g.W.Write.contents c.write_z120.new.output) text))
    (sym c.in-Msc.is) (c.write_z120.ensures.text c.args.charting.now c.args.first c.args.past)

pub returns-in-Msc-clause-why : goal.returns-in-Msc-clause-why
returns-in-Msc-clause-why g c = subst (λ (form : ChartForm). IfErr c.write_z120.result (IsWhyNoText (Some form))) (sym c.in-Msc.is) c.write_z120.ensures.why

pub returns-in-Text-clause-text : goal.returns-in-Text-clause-text
returns-in-Text-clause-text g c = λ whole.
    subst (λ (form : ChartForm). (text : List ℕ)
    × IsTextOf g.K.LogStore.events (Some form) c.args.charting.now c.args.chart.now c.args.first c.args.past text × Appends (g.W.Write.contents c.args.output.now) (g.W.Write.contents c.write_lines.new.output) text)
    (sym c.in-Text.is) (c.write_lines.ensures.text c.args.charting.now whole)
