use Rattle.std.proofs.Common.{ℕ, map, ap, ◌∙◌}
use Rattle.sdl_chart_page.specs.declared.page.Row.{Row}
use Rattle.sdl_chart_page.specs.Entries.{entries_of}
use Rattle.sdl_chart_msc.specs.Messages.{row_sends, sent_above, sent_after, told_at}
use Rattle.sdl_chart_msc.proofs.Whole.{fates_are}
use Rattle.sdl_chart_msc.proofs.messages.Messages.of.Goals as goal

pub returns-clause-above : goal.returns-clause-above
returns-clause-above g c = c.in_ok-above.ensures.above ∙ ap (sent_above (row_sends (entries_of g.K.LogStore.events c.args.lists.now)) 0) c.rows.ensures

pub returns-clause-fates : goal.returns-clause-fates
returns-clause-fates g c =
    let lists = entries_of g.K.LogStore.events c.args.lists.now in
    let sends : Row → ℕ = row_sends lists in
    fates_are (told_at (map g.K.LogStore.events c.args.lists.now.logs.now) c.args.lists.now.received.now) lists c.args.page.now _ c.as_slice.result.now _
    (c.as_slice.ensures.value ∙ (c.in_ok-above.ensures.above ∙ ap (sent_above sends 0) c.rows.ensures))
    (c.in_ok-above.ensures.sent ∙ ap (sent_after sends 0) c.rows.ensures) c.in_ok-fates.ensures
