use Rattle.std.proofs.Common.{ℕ, ◌<◌}
use Rattle.sdl_chart_page.specs.Entries.{entries_of, AreStored}
use Rattle.sdl_chart_page.specs.Pages.{IsStuck}
use Rattle.sdl_chart_page.proofs.placing.Placing.first_due.Given as goal

-- no list so far can go on
abbrev pub invariant-loop-list : goal.invariant-loop-list
invariant-loop-list g l = AreStored g.K.Shows.stores l.lists.logs.now → (k : ℕ) → k < l.list → IsStuck (entries_of g.K.LogStore.events l.lists) l.self.next.items l.self.places k
