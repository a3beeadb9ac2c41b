use Rattle.std.proofs.Common.{◌+◌, ◌*◌}
use denote.Text.{Utf8}
use denote.Shadow.{shadow}
use Rattle.sdl_explaining_places.proofs.reading.Reader.+value.Given as goal

-- how deep lists and tables may lie in what is read
abbrev pub decreases-value : goal.decreases-value
decreases-value l = 2 * l.depth

abbrev pub decreases-list : goal.decreases-list
decreases-list l = 2 * l.depth + 1

abbrev pub decreases-table : goal.decreases-table
decreases-table l = 2 * l.depth + 1

abbrev pub invariant-list-items : goal.invariant-list-items
invariant-list-items l = shadow (Utf8 l.rest)

abbrev pub invariant-table-members : goal.invariant-table-members
invariant-table-members l = shadow (Utf8 l.rest)
