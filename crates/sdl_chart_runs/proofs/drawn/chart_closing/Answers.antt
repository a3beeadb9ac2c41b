use Rattle.std.proofs.Common.{ap, map, sym, ◌∙◌, subst, List, length, unwrap_or}
use Rattle.std.proofs.lemmas.Result.{IfOk-weaker, IfErr-weaker}
use Rattle.sdl_transition.specs.Bound.{structure_of, routes_of}
use Rattle.sdl_run_driver.specs.Closings.{outcome_in}
use Rattle.sdl_chart_page.specs.Entries.{AreStored}
use Rattle.sdl_chart_page.specs.Origins.{value_at}
use Rattle.sdl_chart_page.specs.declared.page.Row.{Row}
use Rattle.sdl_chart_text.specs.declared.left.Left.TheVariants as lefts
use Rattle.sdl_chart_runs.specs.Charts.{Drawn, past_of}
use Rattle.sdl_chart_runs.proofs.Written.{is_chart, are_orderly, no_chart}
use Rattle.sdl_chart_runs.proofs.drawn.chart_closing.Goals as goal

pub page_of-requires-clause-stored : goal.page_of-requires-clause-stored
page_of-requires-clause-stored g c = subst (λ (logs : List _). AreStored g.K.Shows.stores logs) (sym c.lists_in-lists.ensures.logs) c.requires.stored

pub page_of-requires-clause-orderly : goal.page_of-requires-clause-orderly
page_of-requires-clause-orderly g c =
    are_orderly g.K.LogStore.events c.args.to_chart.now.states c.args.to_chart.now.charting (outcome_in g.K.LogStore.events c.args.closing.now) c.lists_in-lists.result
    (ap (map g.K.LogStore.events) c.lists_in-lists.ensures.logs, c.lists_in-lists.ensures.received, c.lists_in-lists.ensures.put) c.requires.orderly

pub write_in_form-requires-clause-stored : goal.write_in_form-requires-clause-stored
write_in_form-requires-clause-stored g c = subst (λ (logs : List _). AreStored g.K.Shows.stores logs) (sym c.lists_in-lists.ensures.logs) c.requires.stored

pub returns-clause-chart : goal.returns-clause-chart
returns-clause-chart g c =
    let v = c.args.closing.now in
    let t = c.args.to_chart.now in
    let x : Drawn = record { page = c.in_ok-page.page; left = λ o. unwrap_or (value_at c.in-Ok.left o) lefts.Nowhere; first = c.in-Some.first; past = c.in-Some.past } in
    IfOk-weaker c.write_in_form.result _ _
    (λ end written. λ whole. let made = written whole in (
      made.0,
      is_chart g.K.LogStore.events t.states t.charting (outcome_in g.K.LogStore.events v) c.lists_in-lists.result x made.0
          (structure_of v.bound) c.structure-structure.result.now (routes_of v.bound) c.routes.result.now
          (c.structure-structure.ensures.structure ∙ c.checked.ensures) c.routes.ensures
          (ap (map g.K.LogStore.events) c.lists_in-lists.ensures.logs, c.lists_in-lists.ensures.received, c.lists_in-lists.ensures.put)
          c.in_ok-page.ensures.page c.in_ok-page.ensures.whole c.in-Some.ensures.first
          (c.in-Some.ensures.past ∙ ap (λ (rows : List Row). past_of t.charting.request (length rows)) c.rows-rows.ensures)
          made.1,
      made.2,
    ))
    c.write_in_form.ensures.text

pub returns-clause-why : goal.returns-clause-why
returns-clause-why g c =
    IfErr-weaker c.write_in_form.result _ _
    (λ fault why. no_chart c.args.to_chart.now.charting (outcome_in g.K.LogStore.events c.args.closing.now) fault why)
    c.write_in_form.ensures.why
