use Rattle.std.proofs.Common.{◌≡◌, take, filter}
use Rattle.sdl_chart_page.specs.Pages.{spot_at}
use Rattle.sdl_chart_drawing.specs.Charts.{comes_in}
use Rattle.sdl_chart_drawing.proofs.whole.entering.Given as goal

abbrev pub invariant-loop-arrival : goal.invariant-loop-arrival
invariant-loop-arrival l = l.list.items ≡ filter (comes_in (spot_at l.page) l.span.first l.span.past) (take l.arrival-index l.arrivals)
