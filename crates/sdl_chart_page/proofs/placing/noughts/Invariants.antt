use Rattle.std.proofs.Common.{◌≡◌, replicate}
use Rattle.sdl_chart_page.proofs.placing.noughts.Given as goal

abbrev pub invariant-loop-number : goal.invariant-loop-number
invariant-loop-number l = l.list.items ≡ replicate l._number 0
