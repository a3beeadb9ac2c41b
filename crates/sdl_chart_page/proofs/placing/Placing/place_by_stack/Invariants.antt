use Rattle.sdl_chart_page.specs.Entries.{entries_of}
use Rattle.sdl_chart_page.specs.Pages.{IsUnderWay}
use Rattle.sdl_chart_page.proofs.placing.Placing.place_by_stack.Given as goal

abbrev pub invariant-loop-step : goal.invariant-loop-step
invariant-loop-step g l = IsUnderWay (entries_of g.K.LogStore.events l.lists) l.self.rows.items l.self.next.items l.self.places
