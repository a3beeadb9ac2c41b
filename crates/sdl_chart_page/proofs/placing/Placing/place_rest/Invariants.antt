use Rattle.sdl_chart_page.specs.Entries.{entries_of}
use Rattle.sdl_chart_page.specs.Pages.{IsUnderWay}
use Rattle.sdl_chart_page.proofs.Whole.{ahead}
use Rattle.sdl_chart_page.proofs.placing.Placing.place_rest.Given as goal

abbrev pub invariant-loop-list : goal.invariant-loop-list
invariant-loop-list g l = IsUnderWay (entries_of g.K.LogStore.events l.lists) l.self.rows.items l.self.next.items l.self.places

abbrev pub decreases-loop-list : goal.decreases-loop-list
decreases-loop-list g l = ahead (entries_of g.K.LogStore.events l.lists) l.self.next.items
