use Rattle.std.proofs.Common.{◌≡◌, ◌<◌, ◌≤◌, ℕ, List, length, get_or, slice_get, Some}
use Rattle.sdl_chart_page.specs.Entries.{Entry, entries_of, AreStored}
use Rattle.sdl_chart_page.proofs.placing.Placing.is_whole.Given as goal

-- nothing is ahead of the lists so far
abbrev pub invariant-loop-list : goal.invariant-loop-list
invariant-loop-list g l =
    AreStored g.K.Shows.stores l.lists.logs.now
    → (k : ℕ) → k < l.list → (es : List Entry) → slice_get (entries_of g.K.LogStore.events l.lists) k ≡ Some es → length es ≤ get_or l.self.next.items k 0
