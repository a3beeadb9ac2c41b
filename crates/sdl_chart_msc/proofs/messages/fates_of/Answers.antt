use Rattle.std.proofs.Common.{ℕ, List, Option, map, ap, sym, ◌∙◌}
use Rattle.sdl_signal.specs.declared.values.Origin.{Origin}
use Rattle.sdl_chart_page.specs.declared.page.Row.{Row}
use Rattle.sdl_chart_msc.specs.declared.messages.Fate.{Fate}
use Rattle.sdl_chart_msc.specs.Messages.{number_by, told_at, settled}
use Rattle.sdl_chart_msc.proofs.Gathered.{fates_more}
use Rattle.sdl_chart_msc.proofs.messages.fates_of.Goals as goal

pub loop-index-preserved : goal.loop-index-preserved
loop-index-preserved g c =
    let tells : Row → Option (Origin × Fate) = told_at (map g.K.LogStore.events c.args.lists.now.logs.now) c.args.lists.now.received.now in
    let number : Origin → ℕ = number_by c.args.page.now c.args.above.now in
    c.settle.ensures ∙ (ap (λ (fates : List Fate). settled number fates c.told_by_row.result) c.loop-index.invariant
    ∙ (ap (settled number _) c.told_by_row.ensures ∙ sym (fates_more tells number _ c.loop-index.index c.rows-rows.result.now _ c.loop-index-test.true)))
