use Rattle.std.proofs.Common.{ℕ}
use Rattle.sdl_chart_page.specs.declared.page.Row.{Row}
use Rattle.sdl_chart_page.specs.Entries.{entries_of}
use Rattle.sdl_chart_msc.specs.Messages.{row_sends}
use Rattle.sdl_chart_msc.proofs.Gathered.{above_step, after_step}
use Rattle.sdl_chart_msc.proofs.messages.count_sent.Goals as goal

pub loop-index-preserved : goal.loop-index-preserved
loop-index-preserved g c =
    let sends : Row → ℕ = row_sends (entries_of g.K.LogStore.events c.args.lists.now) in
    record {
      above = above_step sends _ _ _ _ _ c.loop-index-test.true c.loop-index.invariant.above c.loop-index.invariant.sent c.in_ok-push.ensures.items;
      sent = after_step sends _ _ _ _ _ _ c.loop-index-test.true c.loop-index.invariant.sent c.in_ok-more.ensures c.sent_in_row.ensures;
    }
