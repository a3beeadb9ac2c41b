use Rattle.std.proofs.Common.{List, ap, ◌∙◌}
use Rattle.sdl_chart_page.specs.declared.page.Row.{Row}
use Rattle.sdl_chart_drawing.specs.Traffic.{outputs_of}
use Rattle.sdl_chart_drawing.specs.Charts.{part_of}
use Rattle.sdl_chart_drawing.proofs.Parts.{same_part}
use Rattle.sdl_chart_drawing.proofs.whole.is_whole.Goals as goal

pub returns : goal.returns
returns g c = λ whole.
    let part = part_of g.K.LogStore.events c.args.lists.now c.args.page.now c.args.wanted.now in
    same_part part _ _ _ _ _ c.requires.arrivals
    (c.as_slice.ensures.value ∙ c.in_ok-outputs.ensures ∙ ap (λ (x : List Row). outputs_of g.K.LogStore.events c.args.lists.now c.args.wanted.now.first x) c.part_rows-rows.ensures)
    c.part_rows-rows.ensures c.may_hide.ensures (c.is_chart.ensures whole)
