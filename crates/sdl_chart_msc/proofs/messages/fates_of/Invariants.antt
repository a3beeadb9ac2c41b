use Rattle.std.proofs.Common.{◌≡◌, ◌+◌, take, map, replicate}
use Rattle.sdl_chart_msc.specs.declared.messages.Fate.TheVariants as fate
use Rattle.sdl_chart_msc.specs.Messages.{number_by, told_at, fates_after}
use Rattle.sdl_chart_msc.proofs.messages.fates_of.Given as goal

abbrev pub invariant-loop-index : goal.invariant-loop-index
invariant-loop-index g l =
    l.fates.items ≡ fates_after (told_at (map g.K.LogStore.events l.lists.logs.now) l.lists.received.now) (number_by l.page l.above) (replicate (l.sent + 1) fate.Astray) (take l.index l.rows)
