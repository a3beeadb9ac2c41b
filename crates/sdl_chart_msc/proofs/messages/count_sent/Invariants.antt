use Rattle.std.proofs.Common.{◌≡◌, take}
use Rattle.sdl_chart_page.specs.Entries.{entries_of}
use Rattle.sdl_chart_msc.specs.Messages.{row_sends, sent_above, sent_after}
use Rattle.sdl_chart_msc.proofs.messages.count_sent.Given as goal

abbrev pub invariant-loop-index : goal.invariant-loop-index
invariant-loop-index g l = record {
  above : l.above.items ≡ sent_above (row_sends (entries_of g.K.LogStore.events l.lists)) 0 (take l.index l.rows);
  sent : l.sent ≡ sent_after (row_sends (entries_of g.K.LogStore.events l.lists)) 0 (take l.index l.rows);
}
