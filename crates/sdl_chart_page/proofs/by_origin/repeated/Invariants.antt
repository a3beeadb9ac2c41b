use Rattle.std.proofs.Common.{◌≡◌, replicate}
use Rattle.sdl_chart_page.proofs.by_origin.repeated.Given as goal

abbrev pub invariant-loop-number : goal.invariant-loop-number
invariant-loop-number g l = l.list.items ≡ replicate l._number l.value
